use Rattle.std.proofs.Common.{rules}
use Rattle.fiber_poll.proofs.task.FiberTask.into_parts.Goals as goal

pub returns-clause-pass : goal.returns-clause-pass
returns-clause-pass c = search rules

pub returns-clause-state : goal.returns-clause-state
returns-clause-state c = search rules
