use Rattle.cell_registry.proofs.Prelude.{◌≡◌, ◌++◌, map, take, drop, uncounted}
use Rattle.cell_registry.proofs.kept_cell.forget_each_count.Given as goal

-- those so far are without counts, and the others as they were
abbrev pub invariant-loop-cell : goal.invariant-loop-cell
invariant-loop-cell l = l.cells ≡ map uncounted (take l.cell-index l.initial.cells) ++ drop l.cell-index l.initial.cells
