-- What drawn schedules show of claims.
use Rattle.std.proofs.Common.{◌≡◌, ℕ, ◌<◌, ◌≤◌, List, length, sym, ap, ◌∙◌, subst, arith}
use Rattle.std.specs.Prelude.{Some}
use Rattle.std.specs.List.{All, slice_get}
use Rattle.std.proofs.lemmas.List.Elements.{All-push}
use Rattle.std.proofs.lemmas.Option.{same_Some}
use Rattle.derived_ops.specs.Tree.{Tree}
use Rattle.cell_registry.specs.declared.limits.Limits.{Limits}
use Rattle.world_search.specs.declared.claims.Met.{Met}
use Rattle.world_search.specs.Claims.{IsBrief, IsFew}
use Rattle.every_schedule.specs.declared.claims.ClaimWord.{ClaimWord}
use Rattle.every_schedule.specs.Claims.{IsMetIn, Meets}
use Rattle.sampled_schedules.specs.declared.comings.Drawn.{Drawn}
use Rattle.sampled_schedules.specs.Claims.{LooksThrough}
use Rattle.claim_answers.specs.declared.judging.Verdict.{Verdict}
use Rattle.claim_answers.specs.declared.judging.Verdict.TheVariants.{Moment, NoMoment, Undecided}
use Rattle.claim_answers.specs.Claims.{IsMoment, Pairwise, a_pair, no_pair}
use Rattle.claim_answers.specs.Drawn.{IsSeen}
use Rattle.claim_answers.specs.Private.Met.{IsFoundAs, IsSpellable}
use Rattle.claim_answers.proofs.Looks.{all_at}

module _ (code : Tree) (k : Limits) (wanted : List (List ClaimWord)) (most times : ℕ) (met : List Met) (each : All (IsMetIn code k wanted) met)
    (few : All (IsFew 1000) met) (brief : All (IsBrief most) met) (low : most ≤ 1000000) (looked : LooksThrough code k most times wanted met)
  where
    moment_of : (n : ℕ) (words : List ClaimWord) → slice_get wanted n ≡ Some words → (schedule : List ℕ) (i : ℕ) (m : Met) → slice_get met i ≡ Some m →
        m.claim ≡ n → schedule ≡ m.schedule.items → IsMoment code k words schedule
    moment_of n words there schedule i m at is so =
        let here : IsMetIn code k wanted m = all_at (IsMetIn code k wanted) met i m at each in
        let same : here.0 ≡ words = same_Some here.0 words (sym here.1 ∙ ap (slice_get wanted) is ∙ there) in
        let short : IsBrief most m = all_at (IsBrief most) met i m at brief in
        record {
          meets = subst (λ (s : List ℕ). Meets code k words s) (sym so) (subst (λ (ws : List ClaimWord). Meets code k ws m.schedule.items) same here.2);
          numbers = subst (λ (s : List ℕ). All (λ f. f < 1000) s) (sym so) (all_at (IsFew 1000) met i m at few);
          few = subst (λ (s : List ℕ). length s ≤ 1000000) (sym so) (omega arith);
        }

    pub seen_as : (n : ℕ) (words : List ClaimWord) → slice_get wanted n ≡ Some words → (v : Verdict) → IsFoundAs met n v → IsSeen code k looked.drawn words v
    seen_as n words there (Moment schedule) f = moment_of n words there schedule.items f.0 f.1 f.2 f.3 f.4
    seen_as n words there NoMoment f = f
    seen_as n words there Undecided f = looked.unmet n words there f

spellable : (code : Tree) (k : Limits) (drawn : List Drawn) (words : List ClaimWord) (v : Verdict) → IsSeen code k drawn words v → IsSpellable v
spellable code k drawn words (Moment schedule) is = (is.numbers, is.few)
spellable code k drawn words NoMoment is = tt
spellable code k drawn words Undecided is = tt

-- the schedules of all verdicts can be spelled
pub seen_spellable : (code : Tree) (k : Limits) (drawn : List Drawn) (wanted : List (List ClaimWord)) (vs : List Verdict) →
    Pairwise (IsSeen code k drawn) wanted vs → All IsSpellable vs
seen_spellable code k drawn wanted vs no_pair = λ i d low. absurd (omega arith)
seen_spellable code k drawn wanted vs (a_pair xs ys words v h is) =
    All-push IsSpellable ys v (seen_spellable code k drawn xs ys h) (spellable code k drawn words v is)
