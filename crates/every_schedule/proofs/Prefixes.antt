-- What holds of the first elements of a list, and of one more.
use Rattle.std.proofs.Common.{◌≡◌, ℕ, zero, suc, ◌+◌, ◌&&◌, Bool, true, false, List, [], ◌∷◌, take, Some, refl, ap, ◌∙◌, subst, arith}
use Rattle.std.{proofs.lemmas.{List.Sums.fold_more, Option.{get_or_from_slice_get, same_Some, slice_get_within}}, specs.List.{list_all, fold, slice_get}}
use Rattle.every_schedule.proofs.{OwnKept.and_true, Still.two_true}

pub fold_next : {X Y : Type 0} (f : Y → X → Y) (a : Y) (xs : List X) (i : ℕ) (x : X) → slice_get xs i ≡ Some x →
    fold f a (take (i + 1) xs) ≡ f (fold f a (take i xs)) x
fold_next f a xs i x at =
    fold_more f a xs i x (slice_get_within xs i x at) ∙ ap (f (fold f a (take i xs))) (get_or_from_slice_get xs i x x at)

second_false : (a b : Bool) → b ≡ false → a && b ≡ false
second_false true b e = e
second_false false b e = refl

module _ {X : Type 0} (p : X → Bool) where
  pub all_stops : (xs : List X) (i : ℕ) (x : X) → slice_get xs i ≡ Some x → p x ≡ false → list_all p xs ≡ false
  all_stops [] i x at h = absurd (cc)
  all_stops (y ∷ ys) zero x at h = ap (λ b. b && list_all p ys) (ap p (same_Some y x at) ∙ h)
  all_stops (y ∷ ys) (suc i) x at h = second_false (p y) (list_all p ys) (all_stops ys i x at h)

  pub all_next : (xs : List X) (i : ℕ) (x : X) → slice_get xs i ≡ Some x → list_all p (take i xs) ≡ true → p x ≡ true →
      list_all p (take (i + 1) xs) ≡ true
  all_next [] i x at h px = absurd (cc)
  all_next (y ∷ ys) zero x at h px = and_true (p y) (list_all p (take 0 ys)) (ap p (same_Some y x at) ∙ px) refl
  all_next (y ∷ ys) (suc i) x at h px =
      let both = two_true (p y) (list_all p (take i ys)) h in
      let next : suc (i + 1) ≡ suc i + 1 = omega arith in
      subst (λ n. list_all p (take n (y ∷ ys)) ≡ true) next
      (and_true (p y) (list_all p (take (i + 1) ys)) both.0 (all_next ys i x at both.1 px))
