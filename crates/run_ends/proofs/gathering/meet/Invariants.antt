use Rattle.std.proofs.Common.{All, length}
use Rattle.cell_registry.specs.Passes.{IsOf}
use Rattle.run_ends.{specs.Private.Gathered.{IsAtHome, Taken}, proofs.Meeting.Meets_all}
use Rattle.run_ends.proofs.gathering.meet.Given as goal

-- the passes of the tasks that were taken have met, and the rest is at home
abbrev pub invariant-loop-task : goal.invariant-loop-task
invariant-loop-task l = Meets_all l.registry l.fn.tasks.items l.met l.configs.items l.tasks.items ×
    Taken l.fn.tasks.items l.tasks.items l.met l.configs.items × IsOf l.registry l.met × All (IsAtHome l.registry) l.tasks.items

abbrev pub decreases-loop-task : goal.decreases-loop-task
decreases-loop-task l = length l.tasks.items
