-- Why fibers haven't ended, and the lines that report it.
use Rattle.std.proofs.Common.{◌≡◌, ◌≢◌, ◌⊎◌, inl, inr, ℕ, Result, Ok, Err, IfOk, OnOk, Vec, Global, ◌+◌, ◌<◌, ◌≤◌, Bool, List, [], ◌∷◌, ◌++◌, length, drop}
use Rattle.std.proofs.{Common.{get_or, refl, sym, ap, ◌∙◌, subst, append_assoc, append-nil, add-one, suc}, Math.Seq.drop-cons, lemmas.List.drop_all}
use Rattle.cell_registry.specs.{Cells.Cells, declared.limits.{Limits.Limits, RunError.RunError}}
use Rattle.fiber_frames.specs.Fiber.{Fiber}
use Rattle.derived_ops.specs.Tree.{Tree}
use Rattle.scheduled_core.specs.{Core.{World, core}, Whys.IsWhy, declared.why.Why.Why}
use Rattle.reasons.specs.Whys.{AreWhyLines, IsUnendedText, fault, why_line}
use Rattle.cell_registry.specs.declared.limits.RunError.TheVariants as run

-- these lines, followed by those of the fibers from number i on, are the lines of all fibers
abbrev pub AreFront : Bool → Cells → List Fiber → ℕ → List ℕ → Type 0
AreFront last s all i told =
    (behind : List ℕ) → AreWhyLines last s i (drop i all) behind → AreWhyLines last s 0 all (told ++ behind)

pub told_more : (last : Bool) (s : Cells) (all : List Fiber) (i : ℕ) (g : Fiber) (y : Why) (told new : List ℕ) → i < length all →
    g ≡ get_or all i g → IsWhy s i g y → new ≡ told ++ why_line last i y → AreFront last s all i told → AreFront last s all (i + 1) new
told_more last s all i g y told new low is why_is new_is front = λ behind h.
    let here : drop i all ≡ g ∷ drop (i + 1) all = rw add-one (drop-cons all i g low ∙ ap (λ x. x ∷ drop (suc i) all) (sym is)) in
    let line = why_line last i y in
    let more : AreWhyLines last s i (g ∷ drop (i + 1) all) (line ++ behind) = (y, behind, why_is, refl, h) in
    subst (λ t. AreWhyLines last s 0 all t) (sym (ap (λ t. t ++ behind) new_is ∙ append_assoc told line behind))
    (front (line ++ behind) (subst (λ xs. AreWhyLines last s i xs (line ++ behind)) (sym here) more))

pub all_told : (last : Bool) (s : Cells) (all : List Fiber) (i : ℕ) (told : List ℕ) → length all ≤ i → AreFront last s all i told →
    AreWhyLines last s 0 all told
all_told last s all i told past front =
    subst (λ t. AreWhyLines last s 0 all t) (append-nil told)
    (front [] (subst (λ xs. AreWhyLines last s i xs []) (sym (drop_all i all past)) refl))

pub faulty : {E : Type 0} (code : Tree) (k : Limits) (schedule : List ℕ) (e : RunError) (r : Result World RunError) → r ≡ core code k schedule →
    (e ≡ run.NoMemory) ⊎ (r ≡ Err e) → (told : Result (Vec ℕ Global) E) → IfOk told (λ t. t.items ≡ []) → OnOk told (e ≢ run.NoMemory) →
    IfOk told (λ t. IsUnendedText code k schedule t.items)
faulty code k schedule e r is (inl memory) (Ok t) none other = absurd (other memory)
faulty code k schedule e r is (inr same) (Ok t) none other = subst (λ xs. IsUnendedText code k schedule xs) (sym none) (fault e (sym is ∙ same))
faulty code k schedule e r is stops (Err x) none other = tt
