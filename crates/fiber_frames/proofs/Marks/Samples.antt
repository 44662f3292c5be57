-- Marks that are lawful, and marks that aren't.
use Rattle.fiber_frames.proofs.Prelude.{◌≡◌, inl, inr, ℕ, List, [], ◌∷◌, ◌++◌, Option, Some, refl, sym, subst, Act, Canceled, Last, Named, Note, Poll, Seq}
use Rattle.fiber_frames.proofs.Prelude.{Uncancelable, Mark, bracket_steps, Nested, empty, bracket, Has, IsPolled, UncutRegions}
use Rattle.derived_ops.specs.Tree as tree
use Rattle.fiber_frames.specs.Marks.{Acquired, Releasing, Released}
use Rattle.fiber_frames.proofs.Marks.Balance.{balanced_signs}
use Rattle.fiber_frames.proofs.Marks.Typed.{If_ends, Masks, Stack, Typed, with_slot}

-- a bracket in the acquired part of another one
nested : Nested (bracket_steps
    (Mark.Enter 0 ∷ Mark.Acquired 0 ∷ Mark.Enter 1 ∷ Mark.Acquired 1 ∷ Mark.Releasing 1 ∷ Mark.Released 1 ∷ Mark.Releasing 0 ∷ Mark.Leave
    1 ∷ Mark.Released 0 ∷ []))
nested = bracket 0 (bracket 1 empty empty) empty

-- the outer bracket releases first
crossed : Nested (Acquired 0 ∷ Acquired 1 ∷ Releasing 0 ∷ Released 0 ∷ Releasing 1 ∷ Released 1 ∷ []) → ⊥
crossed h = let e = balanced_signs h [] in cc

-- a bracket that releases twice
twice : Nested (Acquired 0 ∷ Releasing 0 ∷ Released 0 ∷ Releasing 0 ∷ Released 0 ∷ []) → ⊥
twice h = let e = balanced_signs h [] in cc

-- a bracket that never releases
kept_open : Nested (Acquired 0 ∷ []) → ⊥
kept_open h = let e = balanced_signs h [] in cc

-- a cut below the poll of its mask
polled : UncutRegions (Mark.Enter 0 ∷ Mark.PollIn 0 ∷ Mark.Cut ∷ [])
polled = inr (Mark.Enter 0 ∷ Mark.PollIn 0 ∷ [], [], refl, elim [ inl e ↦ cc | inr g ↦ elim g [ inl e ↦ cc | inr h ↦ h ] ], (λ h. h), there)
  where
    there : (m : ℕ) → Has (Mark.Enter m) (Mark.Enter 0 ∷ Mark.PollIn 0 ∷ []) → (Has (Mark.Leave m) (Mark.Enter 0 ∷ Mark.PollIn 0 ∷ []) → ⊥) →
        IsPolled m (Mark.Enter 0 ∷ Mark.PollIn 0 ∷ [])
    there m (inl e) u = let same : 0 ≡ m = cc in subst (λ m. IsPolled m (Mark.Enter 0 ∷ Mark.PollIn 0 ∷ [])) same (Mark.Enter 0 ∷ [], [], refl, (λ h. h))
    there m (inr (inl e)) u = cc
    there m (inr (inr h)) u = absurd h

-- a cut below its mask
masked : UncutRegions (Mark.Enter 0 ∷ Mark.Cut ∷ []) → ⊥
masked (inl none) = none (inr (inl refl))
masked (inr h) = go h.0 h.1 h.2 h.5
  where
    unpolled : (a b : List Mark) → Mark.Enter 0 ∷ [] ≡ a ++ Mark.PollIn 0 ∷ b → ⊥
    unpolled [] b e = cc
    unpolled (x ∷ []) b e = cc
    unpolled (x ∷ y ∷ a) b e = cc

    go : (a b : List Mark) → Mark.Enter 0 ∷ Mark.Cut ∷ [] ≡ a ++ Mark.Cut ∷ b → ((m : ℕ) → Has (Mark.Enter m) a → (Has (Mark.Leave m) a → ⊥) → IsPolled m a) → ⊥
    go (x ∷ []) b e f =
        let here : Mark.Enter 0 ≡ x = cc in
        let p = subst (λ y. (Has (Mark.Leave 0) (y ∷ []) → ⊥) → IsPolled 0 (y ∷ [])) (sym here) (f 0 (inl (sym here))) (elim [ inl e ↦ cc | inr h ↦ h ]) in
        unpolled p.0 p.1 p.2
    go (x ∷ y ∷ []) b e f = cc
    go _ b e f = cc

-- a bracket marked as acquired before an acquisition that polls: a cut there would leave it open
acquired_before : (i : ℕ) (P : Masks) (n x : Option Stack) →
    Typed i P [] (Some []) [] n x (Uncancelable 0 (Seq Last (Note tree.Acquired (Named 0)) (Poll (Named 0) (Act Canceled)))) → ⊥
acquired_before i P n x h =
    let (m, known, note, polled) = h.4 in
    let (g, own, t, at, ends, here) = note in
    let W : Masks = with_slot P 0 in
    let inner : Typed i W (Named 0 ∷ []) (Some []) t n x (Poll (Named 0) (Act Canceled)) =
    subst (λ o. If_ends o (λ s. Typed i W (Named 0 ∷ []) (Some []) s n x (Poll (Named 0) (Act Canceled)))) ends polled in
    let opened : t ≡ [] = inner.4.0 in
    cc (opened, at.1)
