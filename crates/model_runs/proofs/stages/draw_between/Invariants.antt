use Rattle.std.specs.List.{All}
use Rattle.derived_ops.specs.{Expansion.code_of, Reading.source_of}
use Rattle.model_runs.specs.Seeing.{IsSeen}
use Rattle.model_runs.proofs.stages.draw_between.Given as goal

-- the answers so far are right
abbrev pub invariant-loop-length : goal.invariant-loop-length
invariant-loop-length g l = All (IsSeen (code_of (source_of l.prepared.program)) l.plan.limits) l.before.answers.items
