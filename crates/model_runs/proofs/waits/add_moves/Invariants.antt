use Rattle.scheduled_core.specs.Fitting.{AllFit, world_of}
use Rattle.model_runs.proofs.waits.add_moves.Given as goal

-- the fibers fit the registry
abbrev pub invariant-loop : goal.invariant-loop
invariant-loop l = AllFit (world_of l.fibers.items l.registry.state)
