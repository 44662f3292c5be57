-- Flags that spread back along edges.
use Rattle.std.proofs.{Common.{◌≡◌, ℕ, zero, suc, ◌<◌, Bool, true, false, List, [], ◌∷◌, set, Some, refl, sym, ◌∙◌, subst, arith}, lemmas.Option.same_Some}
use Rattle.std.{proofs.lemmas.Option.slice_get_within, specs.List.slice_get}
use mathlib.Core.Logic.{dite}
use native.Mathlib.Decide.{ℕ_discrete}
use Rattle.world_search.specs.{declared.graphs.Edge.Edge, Private.Flags.{LeadsOn, AreFlagged, KeepsFlags, AreBack, unset, LeadsOn.{Here, Along}}}
use Rattle.world_search.proofs.Lists.{set_same, set_other}

pub unset_set : (flags : List Bool) (i : ℕ) → slice_get flags i ≡ Some false → unset (set flags i true) < unset flags
unset_set [] i e = absurd (cc)
unset_set (true ∷ flags) zero e = absurd (cc)
unset_set (false ∷ flags) zero e = omega arith
unset_set (true ∷ flags) (suc i) e = unset_set flags i e
unset_set (false ∷ flags) (suc i) e = let h = unset_set flags i e in omega arith

pub keeps_same : (flags : List Bool) → KeepsFlags flags flags
keeps_same flags i e = e

pub keeps_set : (old flags : List Bool) (i : ℕ) → KeepsFlags old flags → slice_get flags i ≡ Some false → KeepsFlags old (set flags i true)
keeps_set old flags i keeps e j h = dite (ℕ_discrete j i)
    (λ is. subst (λ n. slice_get (set flags i true) n ≡ Some true) (sym is) (set_same flags i true (slice_get_within flags i false e)))
    (λ isnt. set_other flags i j true isnt ∙ keeps j h)

pub keeps_keeps : (a b c : List Bool) → KeepsFlags a b → KeepsFlags b c → KeepsFlags a c
keeps_keeps a b c h k i e = k i (h i e)

pub flagged_same : (edges : List Edge) (flags : List Bool) → AreFlagged edges flags flags
flagged_same edges flags i e = (i, Here i i refl, e)

pub flagged_set : (edges : List Edge) (old flags : List Bool) (k : ℕ) (e : Edge) → AreFlagged edges old flags → slice_get edges k ≡ Some e →
    slice_get flags e.to ≡ Some true
    → AreFlagged edges old (set flags e.from true)
flagged_set edges old flags k e known at ahead i h = dite (ℕ_discrete i e.from)
    (λ is. let there = known e.to ahead in (there.0, Along k e i there.0 at is there.1, there.2))
    (λ isnt. known i (sym (set_other flags e.from i true isnt) ∙ h))

leads_leads : (edges : List Edge) (i j k : ℕ) → LeadsOn edges i j → LeadsOn edges j k → LeadsOn edges i k
leads_leads edges a b k (Here i j is) l = subst (λ n. LeadsOn edges n k) (sym is) l
leads_leads edges a b k (Along n e i j at is on) l = Along n e i k at is (leads_leads edges e.to j k on l)

pub flagged_flagged : (edges : List Edge) (a b c : List Bool) → AreFlagged edges a b → AreFlagged edges b c → AreFlagged edges a c
flagged_flagged edges a b c h k i e =
    let there = k i e in
    let before = h there.0 there.2 in
    (before.0, leads_leads edges i there.0 before.0 there.1 before.1, before.2)

-- one more edge, from the last to the first
pub back_more : (edges : List Edge) (flags : List Bool) (n m : ℕ) (e : Edge) → n ≡ suc m → slice_get edges m ≡ Some e →
    (slice_get flags e.to ≡ Some true → slice_get flags e.from ≡ Some true)
    → AreBack edges flags n → AreBack edges flags m
back_more edges flags n m e is at here known k d low there = dite (ℕ_discrete k m)
    (λ same.
    let one : e ≡ d = same_Some e d (sym at ∙ subst (λ x. slice_get edges x ≡ Some d) same there) in
    subst (λ (x : Edge). slice_get flags x.to ≡ Some true → slice_get flags x.from ≡ Some true) one here)
    (λ isnt. known k d (omega arith) there)
