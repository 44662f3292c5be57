-- What a move leaves on the focus path: masks that were there, and the one that it enters.
use Rattle.fiber_frames.proofs.Prelude.{◌≡◌, ◌⊎◌, inl, inr, ℕ, ◌+◌, List, [], ◌∷◌, refl, sym, subst, Pair, Tree, Reply, At_final, At_term, Final, Running, Runs}
use Rattle.fiber_frames.proofs.Prelude.{focus, path, pending, pending_at, Born, Row, RowKind, row_at, Cuts, Fiber, Move_case, Reduces, kind_in, move, move_case}
use Rattle.fiber_frames.proofs.Prelude.{move_in, term_born, masks_first, masks_of}
use Rattle.fiber_frames.specs.Fiber.{kind_of}
use Rattle.fiber_frames.proofs.Walk.{End, Works, end_of, pending_root, root_row, row_root, walk}
use Rattle.fiber_frames.proofs.Marks.Actions.{If_born}
use Rattle.fiber_frames.proofs.Marks.Cutting.{Live, Static}
use Rattle.fiber_frames.proofs.Marks.Runs.{AllStatic, LiveRun, pending_static}
use Rattle.fiber_frames.proofs.Renumbering.{Each}
use Rattle.fiber_frames.proofs.Spines.{RowOn, static_each, walk_on}

-- ---- pending finalizers
static_path : (t : Tree) → Live t → AllStatic (pending (path t []))
static_path t h = subst AllStatic (sym (pending_root t)) (pending_static t h)

static_pending : (w : Running) → LiveRun w → AllStatic (pending_at (focus w))
static_pending (Runs t) h = static_path t h
static_pending (Final m (g ∷ gs)) h = static_path g h.0
static_pending _ h = tt

module _ (P : ℕ → Type 0) where
  first_on : (gs : List Tree) → AllStatic gs → Each P (masks_first gs)
  first_on [] h = tt
  first_on (g ∷ gs) h = static_each P g h.0

  module _ (i next : ℕ) (new : P next) (r : Reply) where
    pub record RunOn (a : Row Running) : Type 0 where
      pub on : Each P (masks_of a.becomes)
      pub rises : (a.next ≡ next) ⊎ (a.next ≡ next + 1)
      pub born : If_born a.kind Static

    term_on : (E : End) (a : Row Tree) → RowOn P i next new r a → RunOn (root_row i next At_term E a)
    term_on Works a h = record { on = h.on; rises = h.rises; born = h.born }
    term_on _ a h = record { on = tt; rises = inl refl; born = tt }

    final_on : (m : ℕ) (gs : List Tree) → P m → AllStatic gs → (E : End) (a : Row Tree) → RowOn P i next new r a → RunOn (root_row i next (At_final m gs) E a)
    final_on m gs p k Works a h = record { on = (p, h.on); rises = h.rises; born = h.born }
    final_on m gs p k _ a h = record { on = (p, first_on gs k); rises = inl refl; born = tt }

    run_on : (w : Running) → LiveRun w → Each P (masks_of w) → RunOn (row_at i next r (focus w) w)
    run_on (Runs t) h g = subst RunOn (sym (row_root i next r At_term t)) (term_on (end_of t) (walk i next r [] t) (walk_on P i next new r t [] h g))
    run_on (Final m (t ∷ gs)) h g =
        subst RunOn (sym (row_root i next r (At_final m gs) t))
        (final_on m gs g.0 h.1 (end_of t) (walk i next r (Pair i m ∷ []) t) (walk_on P i next new r t (Pair i m ∷ []) h.0 g.1))
    run_on _ h g = record { on = tt; rises = inl refl; born = tt }

  pub move_on : (f : Fiber) (r : Reply) → LiveRun f.running → P f.next → Each P (masks_of f.running) → Each P (masks_of (move f r).running)
  move_on f r h new g = go (move_case f)
    where
      go : (c : Move_case) → Each P (masks_of (move_in f r c).running)
      go Cuts = (new, first_on (pending_at (focus f.running)) (static_pending f.running h))
      go Reduces = (run_on f.number f.next new r f.running h g).on
      go _ = g

any_on : (ms : List ℕ) → Each (λ m. Unit {0}) ms
any_on [] = tt
any_on (m ∷ ms) = (tt, any_on ms)

-- at most one number is taken
pub move_rises : (f : Fiber) (r : Reply) → LiveRun f.running → ((move f r).next ≡ f.next) ⊎ ((move f r).next ≡ f.next + 1)
move_rises f r h = go (move_case f)
  where
    go : (c : Move_case) → ((move_in f r c).next ≡ f.next) ⊎ ((move_in f r c).next ≡ f.next + 1)
    go Cuts = inr refl
    go Reduces = (run_on (λ m. Unit {0}) f.number f.next tt r f.running h (any_on (masks_of f.running))).rises
    go _ = inl refl

-- what is started has no mask on its path
pub child_static : (f : Fiber) (n : ℕ) → LiveRun f.running → Static (term_born (kind_of f (Reply.Number n)))
child_static f n h = started (kind_of f (Reply.Number n)) (go (move_case f))
  where
    go : (c : Move_case) → If_born (kind_in f (Reply.Number n) c) Static
    go Reduces = (run_on (λ m. Unit {0}) f.number f.next tt (Reply.Number n) f.running h (any_on (masks_of f.running))).born
    go _ = tt

    started : (k : RowKind) → If_born k Static → Static (term_born k)
    started (Born e) c = c
    started _ c = tt
