-- Lists, one element longer or changed.
use Rattle.std.{proofs.Common.{◌≡◌, ℕ, zero, suc, List, [], ◌∷◌, ◌++◌, length, set, refl, sym, ap, subst, arith, append_assoc, append-nil}, specs.Prelude.Some}
use Rattle.std.specs.List.{slice_get}

pub put_back : {A : Type 0} (xs : List A) (f : ℕ) (a : A) → slice_get xs f ≡ Some a → set xs f a ≡ xs
put_back [] f a e = refl
put_back (x ∷ xs) zero a e = let s : x ≡ a = cc in ap (λ y. y ∷ xs) (sym s)
put_back (x ∷ xs) (suc f) a e = ap (λ ys. x ∷ ys) (put_back xs f a e)

pub get_early : {A : Type 0} (xs ys : List A) (f : ℕ) (a : A) → slice_get xs f ≡ Some a → slice_get (xs ++ ys) f ≡ Some a
get_early [] ys f a e = absurd (cc)
get_early (x ∷ xs) ys zero a e = e
get_early (x ∷ xs) ys (suc f) a e = get_early xs ys f a e

pub get_last : {A : Type 0} (xs : List A) (f : ℕ) (a : A) → length xs ≡ f → slice_get (xs ++ a ∷ []) f ≡ Some a
get_last [] zero a e = refl
get_last [] (suc f) a e = absurd (omega arith)
get_last (x ∷ xs) zero a e = absurd (omega arith)
get_last (x ∷ xs) (suc f) a e = get_last xs f a (omega arith)

pub put_seam : {A : Type 0} (xs : List A) (a b : A) (ys : List A) → set (xs ++ a ∷ ys) (length xs) b ≡ xs ++ b ∷ ys
put_seam [] a b ys = refl
put_seam (x ∷ xs) a b ys = ap (λ zs. x ∷ zs) (put_seam xs a b ys)

pub get_seam : {A : Type 0} (xs : List A) (a : A) (ys : List A) → slice_get (xs ++ a ∷ ys) (length xs) ≡ Some a
get_seam [] a ys = refl
get_seam (x ∷ xs) a ys = get_seam xs a ys

-- what a list ends with
pub end_left : {A : Type 0} (xs ys : List A) (a b : A) → xs ++ a ∷ [] ≡ ys ++ b ∷ [] → xs ≡ ys
end_left [] [] a b e = refl
end_left [] (y ∷ []) a b e = absurd (cc)
end_left [] (y ∷ z ∷ ys) a b e = absurd (cc)
end_left (x ∷ []) [] a b e = absurd (cc)
end_left (x ∷ z ∷ xs) [] a b e = absurd (cc)
end_left (x ∷ xs) (y ∷ ys) a b e =
    let h : x ≡ y = cc in
    let t : xs ++ a ∷ [] ≡ ys ++ b ∷ [] = cc in
    let u : xs ≡ ys = end_left xs ys a b t in
    cc

pub end_right : {A : Type 0} (xs ys : List A) (a b : A) → xs ++ a ∷ [] ≡ ys ++ b ∷ [] → a ≡ b
end_right [] [] a b e = cc
end_right [] (y ∷ []) a b e = absurd (cc)
end_right [] (y ∷ z ∷ ys) a b e = absurd (cc)
end_right (x ∷ []) [] a b e = absurd (cc)
end_right (x ∷ z ∷ xs) [] a b e = absurd (cc)
end_right (x ∷ xs) (y ∷ ys) a b e = let t : xs ++ a ∷ [] ≡ ys ++ b ∷ [] = cc in end_right xs ys a b t

pub end_none : {A : Type 0} (xs : List A) (a : A) → xs ++ a ∷ [] ≡ [] → ⊥
end_none [] a e = cc
end_none (x ∷ xs) a e = cc

-- what holds of the empty list, and of each list with one more at its end, holds
from_here : {A : Type 0} (P : List A → Type 0) (step : (h : List A) (e : A) → P h → P (h ++ e ∷ [])) (done rest : List A) → P done → P (done ++ rest)
from_here P step done [] p = subst P (sym (append-nil done)) p
from_here P step done (e ∷ rest) p = subst P (append_assoc done (e ∷ []) rest) (from_here P step (done ++ e ∷ []) rest (step done e p))

pub by_ends : {A : Type 0} (P : List A → Type 0) → P [] → ((h : List A) (e : A) → P h → P (h ++ e ∷ [])) → (h : List A) → P h
by_ends P start step h = from_here P step [] h start
