-- Fibers that are at the same, but for what is bound where neither looks any more, are one.
use Rattle.fiber_frames.proofs.Prelude.{◌≡◌, ℕ, List, [], ◌∷◌, map, reverse, refl, sym, ap, ap₂, ◌∙◌, reverse_aux, Tree, CoreWord, Frame, Pending, RunStage}
use Rattle.fiber_frames.proofs.Prelude.{Machine, Leaf, PathStep, whole, finalizer_of, finalizers_of, leaf_of, leaf_tree, running_in, running_of, step_of}
use Rattle.fiber_frames.proofs.Prelude.{steps_of, IsOver, SameCourse, SameParts, fiber_in, state_of}

map_onto : {A B : Type 0} (to : A → B) (xs ys : List A) → map to (reverse_aux xs ys) ≡ reverse_aux (map to xs) (map to ys)
map_onto to [] ys = refl
map_onto to (x ∷ xs) ys = map_onto to xs (x ∷ ys)

map_reverse : {A B : Type 0} (to : A → B) (xs : List A) → map to (reverse xs) ≡ reverse (map to xs)
map_reverse to xs = map_onto to xs []

module _ (one other : Machine) (own : one.own ≡ other.own) (h : SameParts one other) where
  leaf_same : leaf_tree (state_of one) ≡ leaf_tree (state_of other)
  leaf_same = h.names.leaf.same one.env.items other.env.items h.env ∙ ap₂ (λ (ws : List CoreWord) (l : Leaf). leaf_of ws other.env.items l) h.words h.leaf

  frames_same : map (step_of one.words.value one.env.items one.own) one.frames.items ≡ map (step_of other.words.value other.env.items other.own) other.frames.items
  frames_same =
      h.names.frames.same one.env.items other.env.items h.env
      ∙ ap₂ (λ (ws : List CoreWord) (i : ℕ). map (step_of ws other.env.items i) one.frames.items) h.words own
      ∙ ap (λ (fs : List Frame). map (step_of other.words.value other.env.items other.own) fs) h.frames

  steps_same : steps_of (state_of one) ≡ steps_of (state_of other)
  steps_same =
      map_reverse (step_of one.words.value one.env.items one.own) one.frames.items
      ∙ ap reverse frames_same
      ∙ sym (map_reverse (step_of other.words.value other.env.items other.own) other.frames.items)

  pending_same : map (finalizer_of one.words.value one.env.items) one.finalizers.items ≡ map (finalizer_of other.words.value other.env.items) other.finalizers.items
  pending_same =
      h.names.finalizers.same one.env.items other.env.items h.env
      ∙ ap₂ (λ (ws : List CoreWord) (ps : List Pending). map (finalizer_of ws other.env.items) ps) h.words h.finalizers

  finalizers_same : finalizers_of (state_of one) ≡ finalizers_of (state_of other)
  finalizers_same =
      map_reverse (finalizer_of one.words.value one.env.items) one.finalizers.items
      ∙ ap reverse pending_same
      ∙ sym (map_reverse (finalizer_of other.words.value other.env.items) other.finalizers.items)

  running_same : one.stage ≡ other.stage → running_of (state_of one) ≡ running_of (state_of other)
  running_same same =
      ap₂ (λ (t : Tree) (gs : List Tree). running_in one.stage t gs)
      (ap₂ (λ (ss : List PathStep) (t : Tree). whole ss t) steps_same leaf_same) finalizers_same
      ∙ ap (λ (s : RunStage). running_in s (whole (steps_of (state_of other)) (leaf_tree (state_of other))) (finalizers_of (state_of other))) same

over_same : (s : RunStage) (t u : Tree) (gs hs : List Tree) → IsOver s → running_in s t gs ≡ running_in s u hs
over_same (RunStage.Over o) t u gs hs over = refl
over_same _ t u gs hs over = absurd over

module _ (one other : Machine) (h : SameCourse one other) where
  fibers_same : running_of (state_of one) ≡ running_of (state_of other) → fiber_in one ≡ fiber_in other
  fibers_same running =
      let a = h.own in
      let b = h.next in
      let c = h.look in
      let d = h.marks in
      cc

  pub same_over : IsOver one.stage → fiber_in one ≡ fiber_in other
  same_over over = fibers_same (over_same one.stage _ (whole (steps_of (state_of other)) (leaf_tree (state_of other))) _ (finalizers_of (state_of other)) over ∙
      ap (λ (s : RunStage). running_in s (whole (steps_of (state_of other)) (leaf_tree (state_of other))) (finalizers_of (state_of other))) h.stage)

  pub same_parts : SameParts one other → fiber_in one ≡ fiber_in other
  same_parts parts = fibers_same (running_same one other h.own parts h.stage)
