use Rattle.fiber_poll.proofs.Turnings.{Loops}
use Rattle.fiber_poll.proofs.task.FiberTask.go.Given as goal

-- so many moves were made, without an event, and the fiber goes on
abbrev pub invariant-loop-made : goal.invariant-loop-made
invariant-loop-made g l = Loops l.fn.self l.made l.self
