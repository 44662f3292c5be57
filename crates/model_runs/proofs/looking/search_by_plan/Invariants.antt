use Rattle.std.specs.List.{All}
use Rattle.derived_ops.specs.{Expansion.code_of, Reading.source_of}
use Rattle.every_schedule.specs.Claims.{IsMetIn}
use Rattle.model_runs.proofs.looking.search_by_plan.Given as goal

-- each condition so far is met by its schedule
abbrev pub invariant-loop : goal.invariant-loop
invariant-loop g l = All (IsMetIn (code_of (source_of l.prepared.program)) l.plan.limits l.wanted) l.drawn.items
