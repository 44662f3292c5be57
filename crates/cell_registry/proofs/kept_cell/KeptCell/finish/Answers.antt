use Rattle.cell_registry.proofs.Prelude.{arith, common_steps}
use Rattle.cell_registry.proofs.kept_cell.KeptCell.finish.Goals as goal

pub returns : goal.returns
returns c = grind (arith, common_steps)
