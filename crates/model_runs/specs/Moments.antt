-- The verdicts of claims at any moment, by a search that checks them in each world.
use Rattle.std.specs.Prelude.{◌≡◌, ⊤, ◌⊎◌, ◌++◌, ◌&&◌, ℕ, Bool, true, false, List, [], ◌∷◌, map, Option, Some, None}
use Rattle.std.specs.List.{All, flat_map, list_any, slice_get}
use Rattle.std.specs.declared.alloc.Global.{Global}
use Rattle.std.specs.declared.vec.Vec.{Vec}
use Rattle.derived_ops.specs.Tree.{Tree}
use Rattle.cell_registry.specs.declared.limits.Limits.{Limits}
use Rattle.world_search.specs.declared.claims.Met.{Met}
use Rattle.world_search.specs.Claims.{IsFound}
use Rattle.every_schedule.specs.declared.claims.ClaimWord.{ClaimWord}
use Rattle.every_schedule.specs.declared.claims.ClaimWord.TheVariants as its
use Rattle.every_schedule.specs.declared.claims.Comparison.{Comparison as ItsComparison}
use Rattle.every_schedule.specs.declared.claims.Comparison.TheVariants as is
use Rattle.every_schedule.specs.Claims.{IsMetIn, Meets}
use Rattle.model_claims.specs.declared.claim.Claim.{Claim}
use Rattle.model_claims.specs.declared.condition.Comparison.{Comparison}
use Rattle.model_claims.specs.declared.condition.Comparison.TheVariants as comparisons
use Rattle.claim_verdicts.specs.declared.judging.Rule.{Rule}
use Rattle.claim_verdicts.specs.declared.judging.Rule.TheVariants as rules
use Rattle.claim_verdicts.specs.declared.judging.Verdict.{Verdict}
use Rattle.claim_verdicts.specs.declared.judging.Verdict.TheVariants as verdicts
use Rattle.model_claims.specs.declared.moment.MomentWord.{MomentWord}
use Rattle.model_claims.specs.declared.moment.MomentWord.TheVariants as moments
use Rattle.model_claims.specs.Judging.{under}
use Rattle.model_runs.specs.declared.result.ClaimResult.{ClaimResult}
use Rattle.model_runs.specs.declared.result.NamedAnswer.{NamedAnswer}
use Rattle.model_runs.specs.declared.result.Search.{Search}

-- ---- what a search looks for
abbrev pub claim_comparison : Comparison → ItsComparison
claim_comparison comparisons.Equal = is.Equal
claim_comparison comparisons.Unequal = is.Differs
claim_comparison comparisons.Below = is.Less
claim_comparison comparisons.AtMost = is.AtMost
claim_comparison comparisons.Above = is.Greater
claim_comparison comparisons.AtLeast = is.AtLeast

abbrev pub claim_word : MomentWord → ClaimWord
claim_word (moments.Compares r comparison v) = its.Compare r (claim_comparison comparison) v
claim_word moments.Not = its.Not
claim_word moments.And = its.And
claim_word moments.Or = its.Or
claim_word moments.Final = its.Final

abbrev pub turning : Rule → List ClaimWord
turning rules.Every = its.Not ∷ []
turning rules.Some = []

-- the condition on a moment that decides a claim by itself: for a claim about every moment, that its words aren't true;
-- for a claim about some moment, that they are
abbrev pub sought : Rule → List MomentWord → List ClaimWord
sought rule words = map claim_word words ++ turning rule

-- the condition that decides a claim at any moment; none for another claim
abbrev pub sought_in : Rule → Option (Vec MomentWord Global) → List (List ClaimWord)
sought_in rule None = []
sought_in rule (Some words) = sought rule words.items ∷ []

-- these conditions for all claims of a model
abbrev pub soughts : List Claim → List (List ClaimWord)
soughts claims = flat_map (λ c. sought_in c.rule c.moment) claims

-- ---- what a search finds
-- each of these conditions is met by its schedule; if the search is complete, no schedule meets another condition
pub record AreMet (code : Tree) (k : Limits) (wanted : List (List ClaimWord)) (complete : Bool) (met : List Met)
    : Type 0 where
  pub each : All (IsMetIn code k wanted) met
  pub none : complete ≡ true → (i : ℕ) (words : List ClaimWord) → slice_get wanted i ≡ Some words →
      (IsFound i met → ⊥) → (schedule : List ℕ) → Meets code k words schedule → ⊥

-- ---- the result of a claim
-- some schedule leads to a moment at which these words are true
abbrev pub SomeMeets : Tree → Limits → List ClaimWord → Type 0
SomeMeets code k words = (schedule : List ℕ) × Meets code k words schedule

-- no schedule leads to a moment at which these words are true
abbrev pub NoneMeets : Tree → Limits → List ClaimWord → Type 0
NoneMeets code k words = (schedule : List ℕ) → Meets code k words schedule → ⊥

-- whether one of these answers is a fault
abbrev pub has_fault : List NamedAnswer → Bool
has_fault answers = list_any (λ a. a.seen.faulty) answers

-- The verdict of a claim at any moment that isn't under `fails`, by the words that decide it. A claim about every
-- moment passes only if no schedule leads to a moment that refutes it and no answer of a complete exploration is a
-- fault; it fails only if a schedule does or an answer is. A claim about some moment passes only if a schedule leads to
-- a moment that meets it, and fails only if none does. The flags say whether an answer is a fault, whether the
-- exploration is complete, and whether the search for moments is complete.
abbrev pub IsJudgedAt : Tree → Limits → List ClaimWord → Rule → Bool → Bool → Bool → Verdict → Type 0
IsJudgedAt code k words rules.Every faulty explored searched verdicts.Passed =
    (faulty ≡ false) × (explored ≡ true) × NoneMeets code k words
IsJudgedAt code k words rules.Every faulty explored searched verdicts.Failed =
    (faulty ≡ true) ⊎ SomeMeets code k words
IsJudgedAt code k words rules.Every faulty explored searched verdicts.Undecided =
    (faulty ≡ false) × ((explored && searched) ≡ false)
IsJudgedAt code k words rules.Some faulty explored searched verdicts.Passed = SomeMeets code k words
IsJudgedAt code k words rules.Some faulty explored searched verdicts.Failed = NoneMeets code k words
IsJudgedAt code k words rules.Some faulty explored searched verdicts.Undecided = searched ≡ false

-- the moment that is shown decides the claim
abbrev pub IsShownAt : Tree → Limits → List ClaimWord → List NamedAnswer → Bool → Option ℕ → Type 0
IsShownAt code k words answers true (Some i) =
    (a : NamedAnswer) × (slice_get answers i ≡ Some a) × Meets code k words a.schedule
IsShownAt code k words answers true None = ⊤
IsShownAt code k words answers false shown = ⊤

-- the result of a claim that these words decide follows from an exploration and a search for moments
pub record IsJudgedMoment (claim : Claim) (code : Tree) (k : Limits) (words : List ClaimWord) (ends found : Search)
    (it : ClaimResult) : Type 0 where
  pub form : it.form ≡ claim.form
  pub rule : it.rule ≡ claim.rule
  pub fails : it.fails ≡ claim.fails
  pub judged : (v : Verdict) × (it.verdict ≡ under claim.fails v) ×
      IsJudgedAt code k words claim.rule (has_fault ends.answers.items) ends.complete found.complete v
  pub shown : IsShownAt code k words found.answers.items it.at_moment it.shown

-- the result of a claim at any moment follows from an exploration and a search for moments; the exploration is the one
-- of these searches that the result names
pub record IsDecidedAtMoments (searches : List Search) (found : Search) (it : ClaimResult) : Type 0 where
  pub claim : Claim
  pub words : Vec MomentWord Global
  pub spoken : claim.moment ≡ Some words
  pub ends : Search
  pub named : slice_get searches it.search ≡ Some ends
  pub code : Tree
  pub limits : Limits
  pub is_result : IsJudgedMoment claim code limits (sought claim.rule words.items) ends found it
