-- The binders that a part names.
use Rattle.std.proofs.Common.{◌≡◌, ◌≤◌, ◌<◌, get_or, ℕ, suc, List, [], ◌∷◌, ◌++◌, length, Some, None, refl, ap, sym, subst, ◌∙◌, slice_get, take}
use Rattle.std.proofs.lemmas.{Option.{slice_get-get_or, slice_get_past}, List.take-take}
use Prim.Native.Nat.{zero}
use Rattle.term_parse.{specs.{declared.scope.Binding.Binding, Reading.{Bound, picked}, Bindings.{bounds, bound_of, InText}}, proofs.Steps.bounds-append}
use Rattle.term_parse.proofs.Steps.{in_text-append}

bounds-get : (text : List ℕ) (xs : List Binding) (i : ℕ) (b : Binding) → slice_get xs i ≡ Some b → slice_get (bounds text xs) i ≡ Some (bound_of text b)
bounds-get text [] i b e = cc
bounds-get text (x ∷ xs) zero b e = let i : x ≡ b = cc in ap (λ y. Some (bound_of text y)) i
bounds-get text (x ∷ xs) (suc i) b e = bounds-get text xs i b e

bounds-get_none : (text : List ℕ) (xs : List Binding) (i : ℕ) → slice_get xs i ≡ None → slice_get (bounds text xs) i ≡ None
bounds-get_none text [] i e = refl
bounds-get_none text (x ∷ xs) zero e = cc
bounds-get_none text (x ∷ xs) (suc i) e = bounds-get_none text xs i e

in_text-get : (text : List ℕ) (xs : List Binding) (i : ℕ) (b : Binding) → slice_get xs i ≡ Some b → InText text xs → InText text (b ∷ [])
in_text-get text [] i b e h = cc
in_text-get text (x ∷ xs) zero b e h = let i : x ≡ b = cc in subst (λ y. InText text (y ∷ [])) i (h.0, h.1, h.2, tt)
in_text-get text (x ∷ xs) (suc i) b e h = in_text-get text xs i b e h.3

append_none : (xs : List Bound) → xs ++ [] ≡ xs
append_none [] = refl
append_none (x ∷ xs) = ap (λ r. x ∷ r) (append_none xs)

pub picked_some : (text : List ℕ) (scope bound new : List Binding) (i : ℕ) (b : Binding) → i < length bound → b ≡ get_or bound i b → new ≡ scope ++
    b ∷ [] → bounds text new ≡ bounds text scope ++ picked (bounds text bound) i
unfolding picked
picked_some text scope bound new i b l e n =
    let g : slice_get bound i ≡ Some b = slice_get-get_or bound i b l ∙ ap (λ y. Some y) (sym e) in
    rw (n, bounds-get text bound i b g, picked) (bounds-append text scope (b ∷ []))

pub picked_none : (text : List ℕ) (scope bound : List Binding) (i : ℕ) → length bound ≤ i → bounds text scope ≡ bounds text scope ++
    picked (bounds text bound) i
unfolding picked
picked_none text scope bound i l = rw (bounds-get_none text bound i (slice_get_past bound i l), picked) (sym (append_none (bounds text scope)))

pub picked_within : (text : List ℕ) (scope bound new : List Binding) (i : ℕ) (b : Binding) → i < length bound → b ≡ get_or bound i b → new ≡ scope ++
    b ∷ [] → InText text scope → InText text bound → InText text new
picked_within text scope bound new i b l e n s h =
    let g : slice_get bound i ≡ Some b = slice_get-get_or bound i b l ∙ ap (λ y. Some y) (sym e) in
    rw n (in_text-append text scope (b ∷ []) s (in_text-get text bound i b g h))

-- what stands in front stays in front
pub kept_twice : (s t u : List Binding) → take (length s) t ≡ s → take (length t) u ≡ t → length s ≤ length t →
    take (length s) u ≡ s
kept_twice s t u e f l = sym (take-take (length s) (length t) u l) ∙ ap (take (length s)) f ∙ e
