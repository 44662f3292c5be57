use Rattle.scheduled_core.specs.Fitting.{AllFit, world_of}
use Rattle.fiber_tests.proofs.schedules.fibers_after.Given as goal

abbrev pub invariant-loop-number : goal.invariant-loop-number
invariant-loop-number l = AllFit (world_of l.fibers.items l.registry.state)
