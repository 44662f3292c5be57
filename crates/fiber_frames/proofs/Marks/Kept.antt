-- What each state of a fiber keeps: its marks are lawful, and few masks are active. One lemma for each way in which a
-- state comes about.
use Rattle.fiber_frames.proofs.Prelude.{◌≡◌, ℕ, ◌<◌, ◌≤◌, List, [], ◌∷◌, length, refl, sym, subst, arith, IsCode, code_of, source_of, Mask, Tree, Reply, Cuts}
use Rattle.fiber_frames.proofs.Prelude.{Fiber, active_of, begins, case_in, child, lost, move, move_case, outcome_of, AreLawful, Final, Running, Runs, Look}
use Rattle.derived_ops.proofs.Counts.{masks_code}
use Rattle.fiber_frames.proofs.Marks.Depths.{RoomOf, active_room, child_room, move_room, small_room}
use Rattle.fiber_frames.proofs.Marks.Lawful.{final_masked}
use Rattle.fiber_frames.proofs.Marks.Programs.{code_part}
use Rattle.fiber_frames.proofs.Marks.Runs.{Holds, child_holds, holds_lawful, live_run, lost_holds, move_holds, root_holds}

-- The state holds by the types of its terms, and at most 250 masks are active in it and later on.
pub record Kept (f : Fiber) : Type 0 where
  pub holds : Holds f
  pub room : RoomOf 250 f

pub kept_root : (t : Tree) → IsCode t → Kept (begins 0 t)
unfolding IsCode
kept_root t (p, k, e) =
    let part = code_part p k.closed in
    let c : Tree = code_of (source_of p) in
    let kept : Kept (begins 0 c) = record { holds = root_holds c part; room = small_room 0 250 c (part.static, omega (arith, masks_code p, k.masks)) } in
    subst (λ u. Kept (begins 0 u)) (sym e) kept

pub kept_moved : (f : Fiber) (r : Reply) → Kept f → Kept (move f r)
kept_moved f r k = record { holds = move_holds f r k.holds; room = move_room f r 250 k.holds.lawful (live_run f k.holds) k.room }

-- the child of a start, whose number is above the fiber's
pub kept_born : (f : Fiber) (n : ℕ) → Kept f → f.number < n → Kept (child f n)
kept_born f n k l = record { holds = child_holds f n k.holds l; room = child_room f n 250 (live_run f k.holds) k.room }

pub kept_lost : (f : Fiber) → Kept f → Kept (lost f)
kept_lost f k = record { holds = lost_holds f k.holds; room = tt }

pub kept_marks : (f : Fiber) → Kept f → AreLawful f.marks (outcome_of f)
kept_marks f k = holds_lawful f k.holds

pub kept_active : (f : Fiber) → Kept f → length (active_of f) ≤ 250
kept_active f k = active_room f.number 250 f.running (omega arith) k.room

-- no cut in finalizers
pub cut_once : (f : Fiber) → Kept f → move_case f ≡ Cuts → (t : Tree) × (f.running ≡ Runs t)
cut_once f k c = go f.running refl (active_of f) refl f.look c
  where
    go : (w : Running) → f.running ≡ w → (up : List Mask) → active_of f ≡ up → (l : Look) → case_in w up l ≡ Cuts → (t : Tree) × (f.running ≡ Runs t)
    go (Runs t) e up a l x = (t, e)
    go (Final m gs) e (q ∷ up) a l x = cc
    go (Final m gs) e [] a l x = absurd (final_masked f m gs k.holds.lawful e a)
    go _ e up a l x = cc
