use Rattle.fiber_poll.specs.Tasks.{IsTaskOf}
use Rattle.task_tests.proofs.refusals.is_refused_thrice.Given as goal

abbrev pub invariant-thrice : goal.invariant-thrice
invariant-thrice l = IsTaskOf l.registry l.code l.most l.task
