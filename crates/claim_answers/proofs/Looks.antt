-- What decides a claim.
use Rattle.std.proofs.Common.{◌≡◌, ℕ, ◌<◌, ◌≤◌, Bool, true, false, List, length, get_or, refl, sym, ap, ◌∙◌, subst, arith}
use Rattle.std.specs.Prelude.{Some}
use Rattle.std.specs.List.{All, AllWithin, slice_get}
use Rattle.std.proofs.lemmas.List.Elements.{All-get_or, All-push}
use Rattle.std.proofs.lemmas.Option.{get_or_from_slice_get, same_Some, slice_get_within}
use Rattle.derived_ops.specs.Tree.{Tree}
use Rattle.cell_registry.specs.declared.limits.Limits.{Limits}
use Rattle.world_search.specs.declared.claims.Met.{Met}
use Rattle.world_search.specs.Claims.{IsFew, IsFound}
use Rattle.every_schedule.specs.declared.claims.ClaimWord.{ClaimWord}
use Rattle.every_schedule.specs.Claims.{IsMetIn, Meets}
use Rattle.claim_answers.specs.declared.judging.Verdict.{Verdict}
use Rattle.claim_answers.specs.declared.judging.Verdict.TheVariants.{Moment, NoMoment, Undecided}
use Rattle.claim_answers.specs.Claims.{IsDecided, IsMoment, Pairwise, a_pair, no_pair}
use Rattle.claim_answers.specs.Private.Met.{AreMet, IsMetAt, IsSpellable, IsVerdictOf, unmet_verdict}

pub all_at : {A : Type 0} (P : A → Type 0) (xs : List A) (i : ℕ) (x : A) → slice_get xs i ≡ Some x → All P xs → P x
all_at P xs i x e h = subst P (get_or_from_slice_get xs i x x e) (All-get_or P xs i x (slice_get_within xs i x e) h)

-- if no element of `met` has the number of the claim, the claim wasn't found
pub unfound : (met : List Met) (n : ℕ) → AllWithin (λ m. m.claim ≡ n → ⊥) met 0 (length met) → IsFound n met → ⊥
unfound met n none f =
    let low = slice_get_within met f.1.0 f.0 f.1.1 in
    none f.1.0 f.0 (omega arith) low (ap (λ (m : Met). m.claim) (get_or_from_slice_get met f.1.0 f.0 f.0 f.1.1) ∙ f.2)

-- the claim at the index `i` of `met` was met by its schedule
moment_at : (code : Tree) (k : Limits) (wanted : List (List ClaimWord)) (words : List ClaimWord) (complete : Bool) (met : List Met) (n i : ℕ) (m : Met) →
    AreMet code k wanted complete met → slice_get wanted n ≡ Some words → IsMetAt met n i → m ≡ get_or met i m → (schedule : List ℕ) →
    schedule ≡ m.schedule.items → length schedule ≤ 1000000 → IsMoment code k words schedule
moment_at code k wanted words complete met n i m right there f at schedule so few =
    let is : IsMetIn code k wanted f.0 = all_at (IsMetIn code k wanted) met i f.0 f.1 right.each in
    let same : is.0 ≡ words = same_Some is.0 words (sym is.1 ∙ ap (slice_get wanted) f.2 ∙ there) in
    let one : f.0 ≡ m = sym (at ∙ get_or_from_slice_get met i f.0 m f.1) in
    let its : f.0.schedule.items ≡ schedule = ap (λ (x : Met). x.schedule.items) one ∙ sym so in record {
      meets = subst (λ (s : List ℕ). Meets code k words s) its (subst (λ (ws : List ClaimWord). Meets code k ws f.0.schedule.items) same is.2);
      numbers = subst (λ (s : List ℕ). All (λ f. f < 1000) s) its (all_at (IsFew 1000) met i f.0 f.1 right.numbers);
      few = few;
    }

-- the verdict on a claim that is met
pub decided_met : (code : Tree) (k : Limits) (wanted : List (List ClaimWord)) (words : List ClaimWord) (complete : Bool) (met : List Met) (n i : ℕ) (m : Met) →
    AreMet code k wanted complete met → slice_get wanted n ≡ Some words → IsMetAt met n i → m ≡ get_or met i m → (v : Verdict) →
    IsVerdictOf m v → IsDecided code k words v
decided_met code k wanted words complete met n i m right there f at (Moment schedule) is =
    moment_at code k wanted words complete met n i m right there f at schedule.items is.0 is.1
decided_met code k wanted words complete met n i m right there f at NoMoment is = absurd is
decided_met code k wanted words complete met n i m right there f at Undecided is = tt

-- the verdict on a claim that isn't met
pub decided_unmet : (code : Tree) (k : Limits) (wanted : List (List ClaimWord)) (words : List ClaimWord) (complete : Bool) (met : List Met) (n : ℕ) →
    AreMet code k wanted complete met → slice_get wanted n ≡ Some words → (IsFound n met → ⊥) → IsDecided code k words (unmet_verdict complete)
decided_unmet code k wanted words true met n right there none = right.none refl n words there none
decided_unmet code k wanted words false met n right there none = tt

spellable : (code : Tree) (k : Limits) (words : List ClaimWord) (v : Verdict) → IsDecided code k words v → IsSpellable v
spellable code k words (Moment schedule) is = (is.numbers, is.few)
spellable code k words NoMoment is = tt
spellable code k words Undecided is = tt

-- the schedules of all verdicts can be spelled
pub all_spellable : (code : Tree) (k : Limits) (wanted : List (List ClaimWord)) (vs : List Verdict) → Pairwise (IsDecided code k) wanted vs →
    All IsSpellable vs
all_spellable code k wanted vs no_pair = λ i d low. absurd (omega arith)
all_spellable code k wanted vs (a_pair xs ys words v h is) =
    All-push IsSpellable ys v (all_spellable code k xs ys h) (spellable code k words v is)
