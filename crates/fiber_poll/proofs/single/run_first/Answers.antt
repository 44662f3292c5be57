use Rattle.std.proofs.Common.{inr, subst}
use Rattle.fiber_poll.specs.{Futures.Comes, Tasks.TaskView}
use Rattle.fiber_poll.proofs.single.run_first.Goals as goal

pub returns-in-Ok : goal.returns-in-Ok
returns-in-Ok g c = inr (inr (subst (λ (t : TaskView). Comes t c.in-Ok.result) c.in_ok-task.ensures.task c.in-Ok.ensures))
