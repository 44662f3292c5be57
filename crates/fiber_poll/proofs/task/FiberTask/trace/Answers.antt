use Rattle.std.proofs.Common.{rules}
use Rattle.fiber_poll.proofs.task.FiberTask.trace.Goals as goal

pub returns-clause-marks : goal.returns-clause-marks
returns-clause-marks c = search rules
