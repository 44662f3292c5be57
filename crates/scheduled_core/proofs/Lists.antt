-- Lists of which one element is set, or that have more at their end.
use Rattle.std.{proofs.Common.{◌≡◌, ◌≢◌, ◌⊎◌, inl, inr, ℕ, zero, suc, ◌+◌, List, [], ◌∷◌, ◌++◌, length, set, Some, refl, sym, ap, arith}, specs.List.slice_get}

pub slice_get-set_same : {A : Type 0} (xs : List A) (f : ℕ) (a b : A) → slice_get xs f ≡ Some a → slice_get (set xs f b) f ≡ Some b
slice_get-set_same [] f a b e = absurd (cc)
slice_get-set_same (x ∷ xs) zero a b e = refl
slice_get-set_same (x ∷ xs) (suc f) a b e = slice_get-set_same xs f a b e

pub slice_get-set_other : {A : Type 0} (xs : List A) (f j : ℕ) (b : A) → f ≢ j → slice_get (set xs f b) j ≡ slice_get xs j
slice_get-set_other [] f j b apart = refl
slice_get-set_other (x ∷ xs) zero zero b apart = absurd (apart refl)
slice_get-set_other (x ∷ xs) zero (suc j) b apart = refl
slice_get-set_other (x ∷ xs) (suc f) zero b apart = refl
slice_get-set_other (x ∷ xs) (suc f) (suc j) b apart = slice_get-set_other xs f j b (λ e. apart (ap suc e))

-- an element that is set to itself
pub set-same : {A : Type 0} (xs : List A) (f : ℕ) (a : A) → slice_get xs f ≡ Some a → set xs f a ≡ xs
set-same [] f a e = refl
set-same (x ∷ xs) zero a e = let s : x ≡ a = cc in ap (λ y. y ∷ xs) (sym s)
set-same (x ∷ xs) (suc f) a e = ap (λ ys. x ∷ ys) (set-same xs f a e)

-- an element of a list with more at its end
pub parted : {A : Type 0} (xs ys : List A) (i : ℕ) (x : A) → slice_get (xs ++ ys) i ≡ Some x → (slice_get xs i ≡ Some x) ⊎
    ((j : ℕ) × (i ≡ length xs + j) × (slice_get ys j ≡ Some x))
parted [] ys i x e = inr (i, omega arith, e)
parted (y ∷ xs) ys zero x e = inl e
parted (y ∷ xs) ys (suc i) x e = elim (parted xs ys i x e) [ inl h ↦ inl h | inr h ↦ inr (h.0, omega (arith, h.1), h.2) ]
