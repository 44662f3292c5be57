use Rattle.std.specs.List.{All}
use Rattle.derived_ops.specs.{Expansion.code_of, Reading.source_of}
use Rattle.every_schedule.specs.Claims.{IsMetIn}
use Rattle.model_runs.proofs.looking.draw_met.Given as goal

-- each condition so far is met by its schedule
abbrev pub invariant-loop-length : goal.invariant-loop-length
invariant-loop-length l = All (IsMetIn (code_of (source_of l.prepared.program)) l.plan.limits l.wanted) l.drawn.items
