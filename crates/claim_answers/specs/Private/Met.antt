-- The result of a search for claims.
use Rattle.std.specs.Prelude.{◌≡◌, ◌<◌, ◌≤◌, ⊤, ℕ, Bool, true, false, List, Some, length, map}
use Rattle.std.specs.declared.alloc.Global.{Global}
use Rattle.std.specs.declared.vec.Vec.{Vec}
use Rattle.std.specs.List.{All, slice_get}
use Rattle.derived_ops.specs.Tree.{Tree}
use Rattle.cell_registry.specs.declared.limits.Limits.{Limits}
use Rattle.world_search.specs.declared.claims.Met.{Met}
use Rattle.world_search.specs.Claims.{IsFew, IsFound}
use Rattle.every_schedule.specs.declared.claims.ClaimWord.{ClaimWord}
use Rattle.every_schedule.specs.Claims.{IsMetIn, Meets}
use Rattle.claim_answers.specs.declared.asked.Asked.{Asked}
use Rattle.claim_answers.specs.declared.judging.Verdict.{Verdict}
use Rattle.claim_answers.specs.declared.judging.Verdict.TheVariants.{Moment, NoMoment, Undecided}
use Rattle.claim_answers.specs.declared.lines.ClaimForm.{ClaimForm}
use Rattle.sampled_schedules.specs.declared.comings.Drawn.{Drawn}
use Rattle.sampled_schedules.specs.Sampled.{IsDrawing}
use Rattle.exploration_text.specs.declared.sample_texts.SampleOrder.{SampleOrder}
use Rattle.claim_answers.specs.declared.moments.Among.TheVariants as among
use Rattle.claim_answers.specs.Claims.{IsDecided, Pairwise, all_set}
use Rattle.claim_answers.specs.Drawn.{IsSeen, IsSeenLine, seen_status}
use Rattle.claim_answers.specs.Unchecked.{AreUnchecked}
use Rattle.claim_answers.specs.Verdicts.{AreLines, IsLine, claims_status}
use Rattle.text_io.specs.declared.status.Status.{Status}

-- the verdicts are right for the words that decide the claims, and for those that are true when the claims are checked;
-- and this is written of them
pub record AreJudgedBy (code : Tree) (form : ClaimForm) (k : Limits) (asked : List Asked) (soughts : List (List ClaimWord))
    (lines : List ℕ) (status : Status) (notes : List ℕ) : Type 0
  where
    pub verdicts : List Verdict
    pub decided : Pairwise (IsDecided code k) soughts verdicts
    pub moments : List Verdict
    pub checked : Pairwise (IsDecided code k) (map all_set soughts) moments
    pub lines_are : AreLines (IsLine form) asked verdicts lines
    pub status_is : status ≡ claims_status asked verdicts
    pub notes_are : AreUnchecked among.All asked moments notes

-- each claim in `met` was met by its schedule, and if the search is complete, no schedule meets another claim
pub record AreMet (code : Tree) (k : Limits) (wanted : List (List ClaimWord)) (complete : Bool) (met : List Met)
    : Type 0 where
  pub each : All (IsMetIn code k wanted) met
  pub none : complete ≡ true → (i : ℕ) (words : List ClaimWord) → slice_get wanted i ≡ Some words →
      (IsFound i met → ⊥) → (schedule : List ℕ) → Meets code k words schedule → ⊥
  pub numbers : All (IsFew 1000) met

-- the claim of the number `n` is at the index `i` of `met`
abbrev pub IsMetAt : List Met → ℕ → ℕ → Type 0
IsMetAt met n i = (m : Met) × (slice_get met i ≡ Some m) × (m.claim ≡ n)

-- the verdict on a claim that was met
abbrev pub IsVerdictOf : Met → Verdict → Type 0
IsVerdictOf met (Moment schedule) = (schedule.items ≡ met.schedule.items) × (length schedule.items ≤ 1000000)
IsVerdictOf met NoMoment = ⊥
IsVerdictOf met Undecided = ⊤

-- the verdict on a claim that isn't met, by whether the search was complete
abbrev pub unmet_verdict : Bool → Verdict
unmet_verdict true = NoMoment
unmet_verdict false = Undecided

-- the schedule can be spelled, if there is one
abbrev pub IsSpellable : Verdict → Type 0
IsSpellable (Moment schedule) = All (λ f. f < 1000) schedule.items × (length schedule.items ≤ 1000000)
IsSpellable NoMoment = ⊤
IsSpellable Undecided = ⊤

-- the text of a claim with its verdict
abbrev pub IsLineOf : ClaimForm → Asked → Verdict → Vec ℕ Global → Type 0
IsLineOf form a v line = IsLine form a v line.items

abbrev pub IsSeenLineOf : Bool → ℕ → Asked → Verdict → Vec ℕ Global → Type 0
IsSeenLineOf json times a v line = IsSeenLine json times a v line.items

-- the claim of the number `n` is met under the schedule of the verdict, or isn't in `met`
abbrev pub IsFoundAs : List Met → ℕ → Verdict → Type 0
IsFoundAs met n (Moment schedule) = (i : ℕ) × (m : Met) × (slice_get met i ≡ Some m) × (m.claim ≡ n) ×
    (schedule.items ≡ m.schedule.items)
IsFoundAs met n NoMoment = ⊥
IsFoundAs met n Undecided = IsFound n met → ⊥

-- schedules were drawn as the order says, and the verdicts are right for them
pub record AreSeenBy (code : Tree) (o : SampleOrder) (soughts : List (List ClaimWord)) (verdicts : List Verdict) :
    Type 0
  where
    pub drawn : List Drawn
    pub many : length drawn ≡ o.times
    pub each : All (IsDrawing code o.limits o.entries) drawn
    pub seen : Pairwise (IsSeen code o.limits drawn) soughts verdicts

-- schedules were drawn as the order says; the verdicts are right for them, those on the claims and those on when the
-- claims are checked; and this is written of them
pub record AreSeenIn (code : Tree) (json : Bool) (o : SampleOrder) (asked : List Asked) (soughts : List (List ClaimWord))
    (lines : List ℕ) (status : Status) (notes : List ℕ) : Type 0
  where
    pub drawn : List Drawn
    pub many : length drawn ≡ o.times
    pub each : All (IsDrawing code o.limits o.entries) drawn
    pub verdicts : List Verdict
    pub seen : Pairwise (IsSeen code o.limits drawn) soughts verdicts
    pub moments : List Verdict
    pub checked : Pairwise (IsSeen code o.limits drawn) (map all_set soughts) moments
    pub lines_are : AreLines (IsSeenLine json o.times) asked verdicts lines
    pub status_is : status ≡ seen_status asked verdicts
    pub notes_are : AreUnchecked among.Drawn asked moments notes
