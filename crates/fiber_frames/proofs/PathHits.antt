-- What a fiber at a place uses is what its leaf, its frames and its finalizers use.
use Rattle.fiber_frames.proofs.Prelude.{◌≡◌, ◌<◌, ◌≤◌, ℕ, zero, suc, ◌+◌, List, [], ◌∷◌, map, take, length, reverse, get_or, refl, ap, ◌∙◌, arith, reverse_aux}
use Rattle.fiber_frames.proofs.Prelude.{Tree, Use, Frame, Pending, Machine, finalizer_of, finalizers_of, leaf_tree, step_of, steps_of, state_of, PathStep}
use Rattle.fiber_frames.proofs.Prelude.{In_masked, In_polled, around, whole, all_hits, path_hits, step_hits, tree_hits}

-- ---- sums over lists
abbrev pub total : {A : Type 0} → (A → ℕ) → List A → ℕ
total g [] = 0
total g (x ∷ xs) = g x + total g xs

module _ {A : Type 0} (g : A → ℕ) where
  total_onto : (xs ys : List A) → total g (reverse_aux xs ys) ≡ total g xs + total g ys
  total_onto [] ys = omega arith
  total_onto (x ∷ xs) ys = let on = total_onto xs (x ∷ ys) in omega (arith, on)

  pub total_reverse : (xs : List A) → total g (reverse xs) ≡ total g xs
  total_reverse xs = let on = total_onto xs [] in omega (arith, on)

  total_suc : (xs : List A) (i : ℕ) (d : A) → i < length xs → total g (take (suc i) xs) ≡ total g (take i xs) + g (get_or xs i d)
  total_suc [] i d low = absurd (omega (arith, low))
  total_suc (x ∷ xs) zero d low = omega arith
  total_suc (x ∷ xs) (suc i) d low = let on = total_suc xs i d (omega (arith, low)) in omega (arith, on)

  pub total_more : (xs : List A) (i : ℕ) (d : A) → i < length xs → total g (take (i + 1) xs) ≡ total g (take i xs) + g (get_or xs i d)
  total_more xs i d low = let e : i + 1 ≡ suc i = omega arith in ap (λ j. total g (take j xs)) e ∙ total_suc xs i d low

  total_one : (xs : List A) (i : ℕ) (d : A) → i < length xs → g (get_or xs i d) ≤ total g xs
  total_one [] i d low = absurd (omega (arith, low))
  total_one (x ∷ xs) zero d low = omega arith
  total_one (x ∷ xs) (suc i) d low = let on = total_one xs i d (omega (arith, low)) in omega (arith, on)

  -- one more that counts nothing, or one that counts
  pub total_none : (xs : List A) (i : ℕ) (d : A) → i < length xs → total g (take i xs) ≡ 0 → g (get_or xs i d) ≡ 0 → total g (take (i + 1) xs) ≡ 0
  total_none xs i d low before none = let more = total_more xs i d low in omega (arith, more, before, none)

  pub total_some : (xs ys : List A) (i : ℕ) (d : A) (n : ℕ) → xs ≡ ys → i < length ys → 0 < n → n ≡ g (get_or xs i d) → 0 < total g ys
  total_some xs ys i d n same low some is =
      let one = total_one ys i d low in
      let here : n ≡ g (get_or ys i d) = is ∙ ap (λ (l : List A). g (get_or l i d)) same in
      omega (arith, one, some, here)

  pub total_all : (xs : List A) (i : ℕ) → length xs ≤ i → total g (take i xs) ≡ total g xs
  total_all [] zero past = refl
  total_all [] (suc i) past = refl
  total_all (x ∷ xs) zero past = absurd (omega (arith, past))
  total_all (x ∷ xs) (suc i) past = ap (λ n. g x + n) (total_all xs i (omega (arith, past)))

module _ (u : Use) (n : ℕ) where
  path_total : {A : Type 0} (f : A → PathStep) (xs : List A) → path_hits u n (map f xs) ≡ total (λ (x : A). step_hits u n (f x)) xs
  path_total f [] = refl
  path_total f (x ∷ xs) = ap (λ k. step_hits u n (f x) + k) (path_total f xs)

  all_total : {A : Type 0} (f : A → Tree) (xs : List A) → all_hits u n (map f xs) ≡ total (λ (x : A). tree_hits u n (f x)) xs
  all_total f [] = refl
  all_total f (x ∷ xs) = ap (λ k. tree_hits u n (f x) + k) (all_total f xs)

  pub all_reversed : {A : Type 0} (f : A → Tree) (xs : List A) → all_hits u n (map f (reverse xs)) ≡ total (λ (x : A). tree_hits u n (f x)) xs
  all_reversed {A} f xs = all_total f (reverse xs) ∙ total_reverse (λ (x : A). tree_hits u n (f x)) xs

  around_hits : (s : PathStep) (t : Tree) → tree_hits u n (around s t) ≡ tree_hits u n t + step_hits u n s
  around_hits (In_masked m) t = omega arith
  around_hits (In_polled q) t = omega arith
  around_hits _ t = refl

  whole_hits : (p : List PathStep) (t : Tree) → tree_hits u n (whole p t) ≡ tree_hits u n t + path_hits u n p
  whole_hits [] t = omega arith
  whole_hits (s ∷ p) t =
      let on = whole_hits p (around s t) in
      let here = around_hits s t in
      omega (arith, on, here)

  pub whole_reversed : {A : Type 0} (f : A → PathStep) (xs : List A) (t : Tree) →
      tree_hits u n (whole (map f (reverse xs)) t) ≡ tree_hits u n t + total (λ (x : A). step_hits u n (f x)) xs
  whole_reversed {A} f xs t =
      whole_hits (map f (reverse xs)) t
      ∙ ap (λ k. tree_hits u n t + k) (path_total f (reverse xs) ∙ total_reverse (λ (x : A). step_hits u n (f x)) xs)

  -- ---- a machine
  module _ (m : Machine) where
    abbrev pub frame_count : Frame → ℕ
    frame_count f = step_hits u n (step_of m.words.value m.env.items m.own f)

    abbrev pub pending_count : Pending → ℕ
    pending_count p = tree_hits u n (finalizer_of m.words.value m.env.items p)

    pub path_is : tree_hits u n (whole (steps_of (state_of m)) (leaf_tree (state_of m))) ≡ tree_hits u n (leaf_tree (state_of m)) + total frame_count m.frames.items
    path_is = whole_reversed (step_of m.words.value m.env.items m.own) m.frames.items (leaf_tree (state_of m))

    pub finals_are : all_hits u n (finalizers_of (state_of m)) ≡ total pending_count m.finalizers.items
    finals_are = all_reversed (finalizer_of m.words.value m.env.items) m.finalizers.items
