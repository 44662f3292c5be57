-- A move, by its cases.
use Rattle.fiber_frames.proofs.Prelude.{◌≡◌, List, [], ◌∷◌, ◌++◌, ◌+◌, refl, sym, ap, ◌∙◌, ℕ, Mask, Tree, Reply, Fiber, active_of, case_in, cut, looked, move}
use Rattle.fiber_frames.proofs.Prelude.{move_in, reduced, row_of, Final, Running, Runs, active_at, focus, pending_at, Look, Clear, Due, Seen, Mark}
use Rattle.fiber_frames.proofs.Walk.{active_root, finalizers_below, masks_below, pending_root}

pub active_run : (f : Fiber) (w : Running) (up : List Mask) → f.running ≡ w → active_of f ≡ up → active_at f.number (focus w) ≡ up
active_run f w up e a = ap (λ y. active_at f.number (focus y)) (sym e) ∙ a

-- what holds of each of its cases holds of the move
pub move_by : (Q : Fiber → Type 0) (f : Fiber) (r : Reply) → Q f → Q (looked f r) →
    ((t : Tree) → f.running ≡ Runs t → masks_below f.number [] t ≡ [] → Q (cut f)) →
    ((m : ℕ) (gs : List Tree) → f.running ≡ Final m gs → active_of f ≡ [] → Q (cut f)) → Q (reduced f (row_of f r)) → Q (move f r)
move_by Q f r same looks cuts_run cuts_final rows = go f.running refl (active_of f) refl f.look
  where
    go : (w : Running) → f.running ≡ w → (up : List Mask) → active_of f ≡ up → (l : Look) → Q (move_in f r (case_in w up l))
    go (Runs t) e (q ∷ up) a l = rows
    go (Runs t) e [] a Due = looks
    go (Runs t) e [] a Clear = rows
    go (Runs t) e [] a Seen = cuts_run t e (sym (active_root f.number t) ∙ active_run f (Runs t) [] e a)
    go (Final m gs) e (q ∷ up) a l = rows
    go (Final m gs) e [] a Due = looks
    go (Final m gs) e [] a Clear = rows
    go (Final m gs) e [] a Seen = cuts_final m gs e a
    go _ e up a l = same

-- a fiber that goes on so, with these marks noted
abbrev pub noted : Fiber → Running → ℕ → List Mark → Fiber
noted f w n ms = record { number = f.number; running = w; look = Due; next = n; marks = f.marks ++ ms }

-- the cut of a term leaves its pending finalizers
pub cut_run : (f : Fiber) (t : Tree) → f.running ≡ Runs t → cut f ≡ noted f (Final f.next (finalizers_below t)) (f.next + 1) (Mark.Cut ∷ [])
cut_run f t e =
    let left : pending_at (focus f.running) ≡ finalizers_below t = ap (λ w. pending_at (focus w)) e ∙ pending_root t in
    ap (λ gs. noted f (Final f.next gs) (f.next + 1) (Mark.Cut ∷ [])) left
