-- What is reached keeps lawful marks and few masks; and children are reached.
use Rattle.fiber_frames.proofs.Prelude.{◌≡◌, ◌<◌, ◌≤◌, ℕ, length, sym, ap, ◌∙◌, subst, Reply, Tree, Ask, RowEnd, number_in, Fiber, begins, Reduces, move_case}
use Rattle.fiber_frames.proofs.Prelude.{row_of, ask_of, kind_in, term_born, active_of, outcome_of, Answers, AreLawful, Reached, root, moved, born, broken}
use Rattle.fiber_frames.proofs.Prelude.{State, kind_of_row_end, BornReached}
use Rattle.fiber_frames.proofs.CallBeforeReply.{row_of_call}
use Rattle.fiber_frames.proofs.Children.{born_same, born_asks}
use Rattle.fiber_frames.proofs.Marks.Kept.{Kept, kept_root, kept_moved, kept_born, kept_lost, kept_marks, kept_active}

pub reached_kept : (f : Fiber) → Reached f → Kept f
reached_kept _ (root {t} c) = kept_root t c
reached_kept _ (moved {f} r h) = kept_moved f r (reached_kept f h)
reached_kept _ (born {f} n l h) = kept_born f n (reached_kept f h) l
reached_kept _ (broken {f} h) = kept_lost f (reached_kept f h)

pub reached_lawful : (f : Fiber) → Reached f → AreLawful f.marks (outcome_of f)
reached_lawful f h = kept_marks f (reached_kept f h)

pub reached_masks : (f : Fiber) → Reached f → length (active_of f) ≤ 250
reached_masks f h = kept_active f (reached_kept f h)

-- the number that a start is answered is above the fiber's
above : (i : ℕ) (a : Ask) (r : Reply) → Answers i a r → a ≡ Ask.Start → i < number_in r
above i Ask.Start (Reply.Number n) h e = h
above i Ask.Start _ h e = absurd h
above i _ r h e = cc

-- the child of a row
pub born_reached : (f : Fiber) (r : Reply) (s : State) (t : RowEnd) → Reached f → move_case f ≡ Reduces → Answers f.number (ask_of f) r →
    (row_of f r).kind ≡ kind_of_row_end s t → BornReached s t (number_in r)
born_reached f r s (RowEnd.Born i n) h m a k =
    let l : f.number < number_in r = above f.number (ask_of f) r a (sym (row_of_call f r m) ∙ born_asks f r _ k)
    in subst (λ (e : Tree). Reached (begins (number_in r) e))
    (ap term_born (ap (kind_in f (Reply.Number (number_in r))) m ∙ born_same f r (Reply.Number (number_in r)) _ k)) (born (number_in r) l h)
born_reached f r s _ h m a k = tt
