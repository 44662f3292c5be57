-- A cut leaves a chain of finalizers.
use Rattle.fiber_frames.proofs.Prelude.{◌≡◌, ℕ, inl, inr, List, [], ◌∷◌, ◌++◌, Option, Some, None, refl, sym, ap, subst, Guarded, Handled, Let, Mask, Masked}
use Rattle.fiber_frames.proofs.Prelude.{Pair, Polled, Seq, Tree, undone}
use Rattle.fiber_frames.proofs.Marks.Typed.{Fine, If_ends, In, Leads, Masks, Stack, Typed, Weaker}
use Rattle.fiber_frames.proofs.Marks.Weaken.{weaker_in}
use Rattle.fiber_frames.proofs.Walk.{finalizers_below, masks_below}

module _ (i : ℕ) (P : Masks) where
  -- a finalizer leads from one stack to another, below any mask that isn't known
  abbrev pub Finalizes : Stack → Stack → Tree → Type 0
  Finalizes s t fin = (f m : ℕ) → (P (Pair f m) → ⊥) → Typed i P (Pair f m ∷ []) None s (Some t) (Some t) fin

  abbrev pub Chain : List Tree → Stack → Option Stack → Type 0
  Chain [] s k = k ≡ Some s
  Chain (fin ∷ fins) s k = (t : Stack) × In P t × Finalizes s t fin × Chain fins t k

  chain_more : (fins : List Tree) (fin : Tree) (s j k : Stack) → In P k → Chain fins s (Some j) → Finalizes j k fin → Chain (fins ++ fin ∷ []) s (Some k)
  chain_more [] fin s j k kn c f = let same : Option Stack = Some j in (k, kn, subst (λ y. If_ends y (λ y. Finalizes y k fin)) c f, refl)
  chain_more (g ∷ fins) fin s j k kn c f = (c.0, c.1, c.2, chain_more fins fin c.0 j k kn c.3 f)

  fine_some : (up : List Mask) (k : Option Stack) (s : Stack) → Fine up k s → up ≡ [] → k ≡ Some s
  fine_some [] None s f e = absurd f
  fine_some [] (Some k) s f e = ap Some (sym f)
  fine_some (a ∷ up) k s f e = cc

  -- no chain ends where no cut may come
  pub chain_none : (fins : List Tree) (s : Stack) → Chain fins s None → ⊥
  chain_none [] s e = cc
  chain_none (g ∷ fins) s c = chain_none fins c.0 c.3

  guarded_chain : (j k : Option Stack) (fins : List Tree) (fin : Tree) (s : Stack) → If_ends k (In P) → Leads j k (λ a b. Finalizes a b fin) →
      Chain fins s j → Chain (fins ++ fin ∷ []) s k
  guarded_chain None k fins fin s kn l c = absurd (chain_none fins s c)
  guarded_chain (Some j) None fins fin s kn l c = absurd l
  guarded_chain (Some j) (Some k) fins fin s kn l c = chain_more fins fin s j k kn c l

  weaker_chain : (j k : Option Stack) (fins : List Tree) (s : Stack) → Weaker j k → Chain fins s j → Chain fins s k
  weaker_chain j k fins s (inl e) c = absurd (chain_none fins s (subst (λ y. Chain fins s y) e c))
  weaker_chain j k fins s (inr e) c = subst (λ y. Chain fins s y) e c

  -- the pending finalizers of a term below no active mask
  pub cut_chain : (t : Tree) (up : List Mask) (k : Option Stack) (s : Stack) (n x : Option Stack) → If_ends k (In P) → masks_below i up t ≡ [] →
      Typed i P up k s n x t → Chain (finalizers_below t) s k
  cut_chain (Let e v b) up k s n x kn a h = cut_chain e up k s h.0 x kn a h.2
  cut_chain (Seq o e b) up k s n x kn a h = cut_chain e up k s h.0 x kn a h.2
  cut_chain (Handled e v b) up k s n x kn a h = weaker_chain h.2 k (finalizers_below e) s h.3 (cut_chain e up h.2 s n h.0 (weaker_in P h.2 k h.3 kn) a h.4)
  cut_chain (Masked m e) up k s n x kn a h = cut_chain e (Pair i m ∷ up) k s n x kn a h.3
  cut_chain (Polled q e) up k s n x kn a h = cut_chain e (undone q up) k s n x kn a h.3
  cut_chain (Guarded e fin) up k s n x kn a h = guarded_chain h.0 k (finalizers_below e) fin s kn h.3 (cut_chain e up h.0 s n x h.1 a h.2)
  cut_chain _ up k s n x kn a h = fine_some up k s h.0 a
