use Rattle.scheduled_core.specs.Fitting.{AllFit, world_of}
use Rattle.model_runs.proofs.word_places.places_along.Given as goal

-- each fiber fits its cell
abbrev pub invariant-loop-number : goal.invariant-loop-number
invariant-loop-number l = record {
  fits : AllFit (world_of l.fibers.items l.registry.state);
}
