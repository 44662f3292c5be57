-- The result of a fiber as a future, and of a program that runs alone.
use Rattle.std.specs.Prelude.{◌≡◌, ◌⊎◌, ℕ, ◌<◌, List, Option, Some, None, Result, Ok, Err}
use Rattle.std.specs.List.{slice_get}
use Rattle.futures.specs.declared.task.Poll.{Poll}
use Rattle.futures.specs.declared.task.Poll.TheVariants.{Pending, Ready}
use Rattle.effect_term.specs.declared.reply.Outcome.{Outcome}
use Rattle.effect_term.specs.declared.reply.Reply.{Reply}
use Rattle.fiber_frames.specs.Fiber.{Fiber, outcome_of}
use Rattle.cell_registry.specs.declared.limits.Limits.{Limits}
use Rattle.cell_registry.specs.declared.limits.RunError.{RunError}
use Rattle.scheduled_core.specs.Core.{World}
use Rattle.fiber_poll.specs.declared.turn.Turn.{Turn}
use Rattle.fiber_poll.specs.declared.turn.Turn.TheVariants as turn
use Rattle.fiber_poll.specs.Tasks.{IsBroken, IsTask, TaskView, Went}
use Rattle.fiber_poll.specs.Stepping.{Failed}
use Rattle.fiber_poll.specs.Turning.{Stopped, Turned}

-- ---- one poll
-- a turn that doesn't end the future, so that more turns are made
abbrev pub IsPending : Turn → Type 0
IsPending (turn.Ended o) = ⊥
IsPending turn.OutOfMoves = ⊥
IsPending _ = Unit {0}

-- the turn of a poll, by the poll's result
abbrev pub Polled : TaskView → ℕ → Poll (Result (Option Outcome) RunError) → TaskView → Type 0
Polled old budget (Ready (Ok (Some o))) new = Turned old budget (turn.Ended o) new
Polled old budget (Ready (Ok None)) new = Turned old budget turn.OutOfMoves new
Polled old budget (Ready (Err e)) new = Stopped old budget e new
Polled old budget Pending new = (answer : Turn) × IsPending answer × Turned old budget answer new

-- ---- all polls
-- the result at the last task: its fiber has ended with this outcome, or has no moves left, or its next move isn't made
abbrev pub IsResult : TaskView → Result (Option Outcome) RunError → Type 0
IsResult last (Ok (Some o)) = outcome_of last.state ≡ Some o
IsResult last (Ok None) = (last.moves ≡ 0) × (outcome_of last.state ≡ None)
IsResult last (Err e) = ((0 < last.moves) ⊎ IsBroken last.state) × ((after : TaskView) × Failed last e after)

-- moves of the task lead to a task with this result
pub record Comes (t : TaskView) (result : Result (Option Outcome) RunError) : Type 0 where
  pub replies : List Reply
  pub last : TaskView
  pub went : Went t replies last
  pub lawful : IsTask last
  pub is : IsResult last result

-- ---- alone
-- the outcome of fiber 0, if it has ended, or the fault
abbrev pub outcome_at : Option Fiber → Option Outcome
outcome_at None = None
outcome_at (Some g) = outcome_of g

abbrev pub first_result : Result World RunError → Result (Option Outcome) RunError
first_result (Ok w) = Ok (outcome_at (slice_get w.fibers 0))
first_result (Err e) = Err e

-- the default limits of a run
abbrev pub default_limits : Limits
default_limits = record { fibers = 1000; refs = 1000; deferreds = 1000; count = 1099511627775 }
