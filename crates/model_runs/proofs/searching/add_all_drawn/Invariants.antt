use Rattle.std.specs.List.{All}
use Rattle.derived_ops.specs.{Expansion.code_of, Reading.source_of}
use Rattle.model_runs.specs.Seeing.{IsSeen}
use Rattle.model_runs.proofs.searching.add_all_drawn.Given as goal

-- the answers so far are right
abbrev pub invariant-loop-coming : goal.invariant-loop-coming
invariant-loop-coming l = record {
  each : All (IsSeen (code_of (source_of l.prepared.program)) l.plan.limits) l.all.items;
}
