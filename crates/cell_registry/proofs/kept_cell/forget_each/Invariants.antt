use Rattle.cell_registry.proofs.Prelude.{◌≡◌, ◌++◌, map, take, drop, unawaited}
use Rattle.cell_registry.proofs.kept_cell.forget_each.Given as goal

-- those so far are without the note, and the others as they were
abbrev pub invariant-loop-cell : goal.invariant-loop-cell
invariant-loop-cell l = l.cells ≡ map unawaited (take l.cell-index l.initial.cells) ++ drop l.cell-index l.initial.cells
