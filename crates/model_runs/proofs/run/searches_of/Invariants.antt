use Rattle.std.specs.List.{All}
use Rattle.model_runs.specs.Seeing.{IsRightOfSome}
use Rattle.model_runs.proofs.run.searches_of.Given as goal

-- the searches so far are right
abbrev pub invariant-loop-probe : goal.invariant-loop-probe
invariant-loop-probe g l = record {
  right : All IsRightOfSome l.searches.items;
}
