use Rattle.once_cell.specs.Once.{cell_name}
use Rattle.steal_pool.proofs.running.drive.Given as goal

abbrev pub ghosts-start : goal.ghosts-start
ghosts-start g a = record { name = cell_name a.cell.now }
