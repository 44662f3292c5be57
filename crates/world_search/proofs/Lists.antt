-- Elements of lists that are extended, or in which one element is set.
use Rattle.std.proofs.Common.{◌≡◌, ◌≢◌, ℕ, zero, suc, ◌+◌, ◌<◌, ◌≤◌, List, [], ◌∷◌, ◌++◌, length, set, Some, refl, sym, ap, ◌∙◌, subst, arith, append_assoc}
use Rattle.std.proofs.{Common.{append-nil, length-append, inl, inr, get_or}, Math.{Nat.mul-suc, Numerals.add-one}, lemmas.Option.{same_Some, slice_get-get_or}}
use Rattle.std.{proofs.lemmas.Option.slice_get_within, specs.{Prelude.{◌*◌, IfOk, Result, Ok, Err}, List.{slice_get, All}}}
use mathlib.Core.Logic.{◌⊎◌}
use Rattle.world_search.specs.Lists.{IsIn, IsMore}

pub more_same : {A : Type 0} (xs : List A) → IsMore xs xs
more_same xs = record { more = []; is = append-nil xs }

pub more_by : {A : Type 0} (xs ys : List A) → IsMore xs (xs ++ ys)
more_by xs ys = record { more = ys; is = refl }

pub more_more : {A : Type 0} (xs ys zs : List A) → IsMore xs ys → IsMore ys zs → IsMore xs zs
more_more xs ys zs m n = record { more = m.more ++ n.more; is = sym (append_assoc xs m.more n.more) ∙ ap (λ l. l ++ n.more) m.is ∙ n.is }

get_append : {A : Type 0} (xs more : List A) (i : ℕ) (x : A) → slice_get xs i ≡ Some x → slice_get (xs ++ more) i ≡ Some x
get_append [] more i x e = absurd (cc)
get_append (y ∷ xs) more zero x e = e
get_append (y ∷ xs) more (suc i) x e = get_append xs more i x e

back_append : {A : Type 0} (xs more : List A) (i : ℕ) → i < length xs → slice_get (xs ++ more) i ≡ slice_get xs i
back_append [] more i h = absurd (omega arith)
back_append (y ∷ xs) more zero h = refl
back_append (y ∷ xs) more (suc i) h = back_append xs more i (omega arith)

pub get_last : {A : Type 0} (xs : List A) (x : A) → slice_get (xs ++ (x ∷ [])) (length xs) ≡ Some x
get_last [] x = refl
get_last (y ∷ xs) x = get_last xs x

-- an element of a list with one more at its end is an element of the list, or the last one
pub get_end : {A : Type 0} (xs : List A) (x y : A) (i : ℕ) → slice_get (xs ++ (x ∷ [])) i ≡ Some y → (slice_get xs i ≡ Some y) ⊎ ((i ≡ length xs) × (x ≡ y))
get_end [] x y zero e = inr (refl, same_Some x y e)
get_end [] x y (suc i) e = absurd (cc)
get_end (z ∷ xs) x y zero e = inl e
get_end (z ∷ xs) x y (suc i) e = elim (get_end xs x y i e) [ inl l ↦ inl l | inr r ↦ inr (ap suc r.0, r.1) ]

pub got_none : {A : Type 0} (xs : List A) (i : ℕ) (x : A) → xs ≡ [] → slice_get xs i ≡ Some x → ⊥
got_none xs i x e at = let low = slice_get_within xs i x at in let none : length xs ≡ 0 = ap length e in omega arith

pub get_low : {A : Type 0} (xs : List A) (i : ℕ) → i < length xs → (x : A) × (slice_get xs i ≡ Some x)
get_low [] i h = absurd (omega arith)
get_low (x ∷ xs) zero h = (x, refl)
get_low (x ∷ xs) (suc i) h = get_low xs i (omega arith)

pub more_get : {A : Type 0} (xs ys : List A) (i : ℕ) (x : A) → IsMore xs ys → slice_get xs i ≡ Some x → slice_get ys i ≡ Some x
more_get xs ys i x m e = subst (λ l. slice_get l i ≡ Some x) m.is (get_append xs m.more i x e)

pub more_back : {A : Type 0} (xs ys : List A) (i : ℕ) (x : A) → IsMore xs ys → i < length xs → slice_get ys i ≡ Some x → slice_get xs i ≡ Some x
more_back xs ys i x m h e = sym (back_append xs m.more i h) ∙ subst (λ l. slice_get l i ≡ Some x) (sym m.is) e

pub more_in : {A : Type 0} (xs ys : List A) (x : A) → IsMore xs ys → IsIn x xs → IsIn x ys
more_in xs ys x m h = (h.0, more_get xs ys h.0 x m h.1)

pub more_long : {A : Type 0} (xs ys : List A) → IsMore xs ys → length xs ≤ length ys
more_long xs ys m = let long = length-append xs m.more in let same : length (xs ++ m.more) ≡ length ys = ap length m.is in omega arith

pub set_same : {A : Type 0} (xs : List A) (i : ℕ) (x : A) → i < length xs → slice_get (set xs i x) i ≡ Some x
set_same [] i x h = absurd (omega arith)
set_same (y ∷ xs) zero x h = refl
set_same (y ∷ xs) (suc i) x h = set_same xs i x (omega arith)

pub set_other : {A : Type 0} (xs : List A) (i j : ℕ) (x : A) → j ≢ i → slice_get (set xs i x) j ≡ slice_get xs j
set_other [] i j x h = refl
set_other (y ∷ xs) zero zero x h = absurd (h refl)
set_other (y ∷ xs) zero (suc j) x h = refl
set_other (y ∷ xs) (suc i) zero x h = refl
set_other (y ∷ xs) (suc i) (suc j) x h = set_other xs i j x (λ e. h (ap suc e))

-- what holds of each element, by its number
pub all_from : {A : Type 0} (P : A → Type 0) (xs : List A) → ((i : ℕ) (x : A) → slice_get xs i ≡ Some x → P x) → All P xs
all_from P xs h = λ k d low. h k (get_or xs k d) (slice_get-get_or xs k d low)

pub more_at : {A : Type 0} (xs ys : List A) (i : ℕ) → IsMore xs ys → i < length xs → slice_get ys i ≡ slice_get xs i
more_at xs ys i m h = subst (λ l. slice_get l i ≡ slice_get xs i) m.is (back_append xs m.more i h)

-- what holds of a value, if there is one
pub ok_then : {T E : Type 0} (P Q : T → Type 0) → ((x : T) → P x → Q x) → (r : Result T E) → IfOk r P → IfOk r Q
ok_then P Q f (Ok x) h = f x h
ok_then P Q f (Err e) h = h

pub mul_next : (a i : ℕ) → a * (i + 1) ≡ a * i + a
mul_next a i = rw add-one (mul-suc a i)
