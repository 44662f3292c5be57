use Rattle.cell_registry.specs.Passes.{IsOf}
use Rattle.registry_tests.proofs.rows.are_answered.Given as goal

abbrev pub invariant-loop-by : goal.invariant-loop-by
invariant-loop-by l = IsOf l.registry l.first × IsOf l.registry l.second
