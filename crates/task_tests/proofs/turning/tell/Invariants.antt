use Rattle.std.proofs.Common.{All}
use Rattle.fiber_poll.specs.Tasks.{IsTaskOf}
use Rattle.task_tests.proofs.turning.tell.Given as goal

-- all tasks so far are of the registry and the code
abbrev pub invariant-loop-number : goal.invariant-loop-number
invariant-loop-number l = All (IsTaskOf l.registry l.code l.most) l.tasks.items
