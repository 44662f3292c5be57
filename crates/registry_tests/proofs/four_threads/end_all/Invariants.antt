use Rattle.cell_registry.specs.Cells.{IsOpen}
use Rattle.cell_registry.specs.Passes.{IsOf}
use Rattle.registry_tests.proofs.four_threads.end_all.Given as goal

abbrev pub invariant-loop : goal.invariant-loop
invariant-loop l = IsOf l.registry l.pass × IsOpen l.pass.stage
