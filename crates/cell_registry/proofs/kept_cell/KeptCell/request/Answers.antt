use Rattle.cell_registry.proofs.Prelude.{arith, common_steps}
use Rattle.cell_registry.proofs.kept_cell.KeptCell.request.Goals as goal

pub returns-clause-reply : goal.returns-clause-reply
returns-clause-reply c = grind (arith, common_steps)
