use Rattle.cell_registry.specs.Passes.{IsOf}
use Rattle.registry_tests.proofs.four_threads.join_all.Given as goal

abbrev pub invariant-loop-fiber : goal.invariant-loop-fiber
invariant-loop-fiber l = IsOf l.registry l.pass
