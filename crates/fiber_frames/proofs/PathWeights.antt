-- The weight of a fiber at a place is that of its leaf, its frames and its finalizers.
use Rattle.fiber_frames.proofs.Prelude.{◌≡◌, ◌<◌, ℕ, ◌+◌, List, [], ◌∷◌, map, min, take, length, reverse, get_or, refl, ap, ◌∙◌, arith, Tree, Frame, Pending}
use Rattle.fiber_frames.proofs.Prelude.{Machine, finalizer_of, finalizers_of, leaf_tree, step_of, steps_of, state_of, PathStep, In_masked, around, whole}
use Rattle.fiber_frames.proofs.PathHits.{total, total_more, total_reverse}
use Rattle.fiber_frames.specs.Weights.{all_weight, path_weight, step_weight, tree_weight}

-- one more item of a sum that stops at a greatest number
pub capped_more : {A : Type 0} (g : A → ℕ) (top start sum more next : ℕ) (xs : List A) (i : ℕ) (d : A) → i < length xs →
    sum ≡ min (start + total g (take i xs)) top → more ≡ min (g (get_or xs i d)) top → next ≡ min (sum + more) top →
    next ≡ min (start + total g (take (i + 1) xs)) top
capped_more g top start sum more next xs i d low e f h = let on = total_more g xs i d low in omega (arith, on, e, f, h)

path_total : {A : Type 0} (f : A → PathStep) (xs : List A) → path_weight (map f xs) ≡ total (λ (x : A). step_weight (f x)) xs
path_total f [] = refl
path_total f (x ∷ xs) = ap (λ k. step_weight (f x) + k) (path_total f xs)

all_total : {A : Type 0} (f : A → Tree) (xs : List A) → all_weight (map f xs) ≡ total (λ (x : A). tree_weight (f x)) xs
all_total f [] = refl
all_total f (x ∷ xs) = ap (λ k. tree_weight (f x) + k) (all_total f xs)

around_weight : (s : PathStep) (t : Tree) → tree_weight (around s t) ≡ tree_weight t + step_weight s
around_weight (In_masked m) t = omega arith
around_weight _ t = omega arith

whole_weight : (p : List PathStep) (t : Tree) → tree_weight (whole p t) ≡ tree_weight t + path_weight p
whole_weight [] t = omega arith
whole_weight (s ∷ p) t =
    let on = whole_weight p (around s t) in
    let here = around_weight s t in
    omega (arith, on, here)

module _ (m : Machine) where
  abbrev pub frame_weight : Frame → ℕ
  frame_weight f = step_weight (step_of m.words.value m.env.items m.own f)

  abbrev pub pending_weight : Pending → ℕ
  pending_weight p = tree_weight (finalizer_of m.words.value m.env.items p)

  pub path_is : tree_weight (whole (steps_of (state_of m)) (leaf_tree (state_of m))) ≡ tree_weight (leaf_tree (state_of m)) + total frame_weight m.frames.items
  path_is =
      whole_weight (steps_of (state_of m)) (leaf_tree (state_of m))
      ∙ ap (λ k. tree_weight (leaf_tree (state_of m)) + k)
      (path_total (step_of m.words.value m.env.items m.own) (reverse m.frames.items) ∙ total_reverse frame_weight m.frames.items)

  pub finals_are : all_weight (finalizers_of (state_of m)) ≡ total pending_weight m.finalizers.items
  finals_are = all_total (finalizer_of m.words.value m.env.items) (reverse m.finalizers.items) ∙ total_reverse pending_weight m.finalizers.items
