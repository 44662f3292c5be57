use Rattle.cell_registry.specs.Passes.{IsOf}
use Rattle.registry_tests.proofs.four_threads.join_often.Given as goal

abbrev pub invariant-loop : goal.invariant-loop
invariant-loop l = IsOf l.registry l.pass
