use Rattle.std.proofs.Common.{rules}
use Rattle.fiber_poll.proofs.task.FiberTask.new.Goals as goal

pub returns : goal.returns
returns c = search rules
