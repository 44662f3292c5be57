-- What a filter keeps.
use Rattle.std.proofs.Common.{◌≡◌, suc, ◌≤◌, Bool, true, false, cond, List, [], ◌∷◌, length, refl, ap, arith}
use Rattle.std.specs.List.{filter}

module _ {A : Type 0} (p : A → Bool) where
  shorter_step : (b : Bool) (x : A) (xs ys : List A) → length ys ≤ length xs → length (cond b (x ∷ ys) ys) ≤ suc (length xs)
  shorter_step true x xs ys low = omega arith
  shorter_step false x xs ys low = omega arith

  filter_shorter : (xs : List A) → length (filter p xs) ≤ length xs
  filter_shorter [] = omega arith
  filter_shorter (x ∷ xs) = shorter_step (p x) x xs (filter p xs) (filter_shorter xs)

  whole_step : (b : Bool) (x : A) (xs : List A) → (length (filter p xs) ≡ length xs → filter p xs ≡ xs) →
      length (cond b (x ∷ filter p xs) (filter p xs)) ≡ suc (length xs) → cond b (x ∷ filter p xs) (filter p xs) ≡ x ∷ xs
  whole_step true x xs rest many = ap (λ l. x ∷ l) (rest (omega arith))
  whole_step false x xs rest many = absurd (let low = filter_shorter xs in omega arith)

  -- if as many elements are kept as there were, all are kept
  pub filter_whole : (xs : List A) → length (filter p xs) ≡ length xs → filter p xs ≡ xs
  filter_whole [] many = refl
  filter_whole (x ∷ xs) many = whole_step (p x) x xs (filter_whole xs) many
