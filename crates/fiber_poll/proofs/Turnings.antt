-- A turn, move by move.
use Rattle.std.proofs.Common.{◌≡◌, inl, inr, ℕ, ◌+◌, ◌<◌, ◌≤◌, List, [], ◌∷◌, ◌++◌, length, Some, None, refl, sym, ap, ◌∙◌, subst, arith, length-append}
use Rattle.effect_term.specs.declared.reply.{Outcome.Outcome, Reply.Reply}
use Rattle.fiber_frames.specs.{declared.ask.Ask.Ask, Fiber.{Fiber, outcome_of}, Leading.{Asked, IsGoing, way_after, way_of}}
use Rattle.fiber_poll.specs.{declared.{turn.Turn.Turn, move_end.MoveEnd.MoveEnd}, Turns.{AreQuiet, Ends, Event, TellsLast, Waits_for, Wakes_fiber, Wakes_topic}}
use Rattle.fiber_poll.specs.{Turns.{Yields, event_of}, Tasks.{IsTask, TaskView, Went}, Turning.{Answered, Stopped, Turned}, Private.Told.Bears}
use Rattle.fiber_poll.{specs.Private.Told.{IsAsked, IsLast, Made, ended_at, event_at, event_told, woken_at}, proofs.MovesAndCalls.{quiet-push, went_nowhere}}
use Rattle.fiber_poll.proofs.{MovesAndCalls.went_on, Outcomes.{broken_lost, outcome_over, outcome_way}}
use Rattle.fiber_frames.specs.declared.ask.Ask.TheVariants as ask
use Rattle.cell_registry.specs.declared.limits.RunError.TheVariants as run
use Rattle.fiber_poll.specs.declared.turn.Turn.TheVariants as turn
use Rattle.fiber_poll.specs.declared.move_end.MoveEnd.TheVariants as move_end

-- ---- an ended fiber, and a broken one
pub over_turned : (t : TaskView) (budget : ℕ) (a : Ask) (o : Outcome) → Asked t.state a → a ≡ ask.Over o → Turned t budget (turn.Ended o) t
over_turned t budget a o h e = record { replies = []; went = went_nowhere t; most = omega arith; answered = (outcome_over t.state a o h e, inl refl) }

pub broken_stopped : (t : TaskView) (budget : ℕ) (a : Ask) → IsTask t → 1 < budget → Asked t.state a → a ≡ ask.Broken → Stopped t budget run.NoMemory t
broken_stopped t budget a i some h e =
    let same = broken_lost t.state a h e in
    record {
      replies = [];
      before = t;
      went = went_nowhere t;
      quiet = tt;
      most = omega arith;
      left = inr (subst (Asked t.state) e h);
      lawful = i;
      failed = (λ j. record { home = t.home; pass = t.pass; state = same j; moves = t.moves }, inl refl);
    }

module _ (t now : TaskView) (view : t ≡ now) (budget : ℕ) (a : Ask) where
  pub over_here : (o : Outcome) → Asked t.state a → a ≡ ask.Over o → Turned now budget (turn.Ended o) now
  over_here o h e = subst (λ (x : TaskView). Turned x budget (turn.Ended o) x) view (over_turned t budget a o h e)

  pub broken_here : IsTask t → 1 < budget → Asked t.state a → a ≡ ask.Broken → Stopped now budget run.NoMemory now
  broken_here i some h e = subst (λ (x : TaskView). Stopped x budget run.NoMemory x) view (broken_stopped t budget a i some h e)

-- ---- the loop
-- so many moves were made, without an event, and the fiber goes on
pub record Loops (old : TaskView) (made : ℕ) (now : TaskView) : Type 0 where
  pub replies : List Reply
  pub went : Went old replies now
  pub quiet : AreQuiet old.state replies
  pub many : length replies ≡ made
  pub going : IsGoing (way_of now.state.running)

pub loop_begins : (t : TaskView) → IsGoing (way_of t.state.running) → Loops t 0 t
loop_begins t g = record { replies = []; went = went_nowhere t; quiet = tt; many = refl; going = g }

pub loop_goes : (old mid new : TaskView) (n : ℕ) (a : Ask) → Loops old n mid → Made mid a move_end.Plain new → Loops old (n + 1) new
loop_goes old mid new n a l m = record {
  replies = l.replies ++ m.reply ∷ [];
  went = went_on old mid new l.replies (m.reply ∷ []) l.went m.went;
  quiet = quiet-push old.state l.replies m.reply l.quiet (subst (λ (s : Fiber). event_of s m.reply ≡ None) l.went.state (sym m.event));
  many = length-append l.replies (m.reply ∷ []) ∙ ap (λ k. k + 1) l.many;
  going = m.goes (sym m.event);
}

-- what its ask tells of the fiber that the task has
pub loop_asked : (t now : TaskView) (a : Ask) → t ≡ now → IsAsked t.state a → IsAsked now.state a
loop_asked t now a view k = subst (λ (x : TaskView). IsAsked x.state a) view k

-- ---- the last move of a turn
-- a fiber ends by asking so
ends_at : (a : Ask) (s : MoveEnd) (o : Outcome) → event_at a s ≡ Some (Ends o) → a ≡ ask.Finish o
ends_at a move_end.Woke o e = absurd (woke a e)
  where
    woke : (a : Ask) → woken_at a ≡ Some (Ends o) → ⊥
    woke (ask.Cancel f) e = cc
    woke (ask.Complete d v) e = cc
    woke _ e = cc
ends_at a move_end.Ended o e = ended a e
  where
    ended : (a : Ask) → ended_at a ≡ Some (Ends o) → a ≡ ask.Finish o
    ended (ask.Finish p) e = let same : p ≡ o = cc in ap ask.Finish same
    ended _ e = cc
ends_at a _ o e = absurd (cc)

module _ (old mid new : TaskView) (n budget : ℕ) (l : Loops old n mid) (less : n < budget) where
  -- one move more is within the budget
  within : (r : Reply) → length (l.replies ++ r ∷ []) ≤ budget
  within r = let k = l.many in let j = length-append l.replies (r ∷ []) in omega arith

  module _ (r : Reply) (t : Turn) (event : event_of mid.state r ≡ event_told t) where
    tells_last : (e : Event) → event_told t ≡ Some e → TellsLast old.state (l.replies ++ r ∷ []) e
    tells_last e is = record {
      before = l.replies;
      last = r;
      are = refl;
      quiet = l.quiet;
      event = subst (λ (s : Fiber). event_of s r ≡ Some e) l.went.state (event ∙ is);
    }

  answers : (r : Reply) (t : Turn) → event_of mid.state r ≡ event_told t → IsLast t →
      ((o : Outcome) → event_told t ≡ Some (Ends o) → outcome_of new.state ≡ Some o) → Answered old (l.replies ++ r ∷ []) budget new t
  answers r (turn.Ended o) e last ends = (ends o refl, inr (tells_last r (turn.Ended o) e (Ends o) refl))
  answers r (turn.Waits w) e last ends = tells_last r (turn.Waits w) e (Waits_for w) refl
  answers r turn.Cedes e last ends = inr (tells_last r turn.Cedes e Yields refl)
  answers r (turn.Started c) e last ends = absurd last
  answers r (turn.WakeFiber f) e last ends = tells_last r (turn.WakeFiber f) e (Wakes_fiber f) refl
  answers r (turn.WakeTopic w) e last ends = tells_last r (turn.WakeTopic w) e (Wakes_topic w) refl
  answers r turn.OutOfMoves e last ends = absurd last

  pub loop_tells : (a : Ask) (s : MoveEnd) (t : Turn) → Made mid a s new → event_told t ≡ event_at a s → IsLast t → Turned old budget t new
  loop_tells a s t m told last = record {
    replies = l.replies ++ m.reply ∷ [];
    went = went_on old mid new l.replies (m.reply ∷ []) l.went m.went;
    most = within m.reply;
    answered = answers m.reply t (sym m.event ∙ sym told) last
        (λ o is. outcome_way new.state o (m.way ∙ ap (λ x. way_after x (way_of mid.state.running)) (ends_at a s o (sym told ∙ is))));
  }

  pub loop_bears : (c : TaskView) → Bears mid new c → Turned old budget (turn.Started c) new
  loop_bears c b = record {
    replies = l.replies ++ b.reply ∷ [];
    went = went_on old mid new l.replies (b.reply ∷ []) l.went b.went;
    most = within b.reply;
    answered = record {
      before = l.replies;
      last = b.reply;
      are = refl;
      quiet = l.quiet;
      parent = mid;
      went = l.went;
      event = b.event;
      child = b.child;
    };
  }
