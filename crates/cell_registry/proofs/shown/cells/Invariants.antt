use Rattle.cell_registry.proofs.Prelude.{◌≡◌, take, Cells, Shows}
use Rattle.cell_registry.proofs.shown.cells.Given as goal

abbrev pub invariant-loop-fiber : goal.invariant-loop-fiber
invariant-loop-fiber l = (s : Cells) → Shows l.limits l.words s → l.cells.items ≡ take l.fiber s.cells
