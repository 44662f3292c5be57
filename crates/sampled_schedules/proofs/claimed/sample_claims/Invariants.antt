use Rattle.std.proofs.Common.{◌≤◌, ◌-◌}
use Rattle.std.specs.List.{All}
use Rattle.derived_ops.specs.Expansion.{code_of}
use Rattle.derived_ops.specs.Reading.{source_of}
use Rattle.world_search.specs.Claims.{IsBrief, IsFew}
use Rattle.every_schedule.specs.Claims.{IsMetIn}
use Rattle.sampled_schedules.specs.Claims.{LooksThrough}
use Rattle.sampled_schedules.proofs.claimed.sample_claims.Given as goal

-- `schedules` schedules were drawn, and the claims that are met on their way are in `met`
abbrev pub invariant-loop-schedules : goal.invariant-loop-schedules
invariant-loop-schedules l = record {
  met : All (IsMetIn (code_of (source_of l.program)) l.fn.limits l.claims) l.met.items;
  looked : LooksThrough (code_of (source_of l.program)) l.fn.limits l.fn.entries l.schedules l.claims l.met.items;
  few : All (IsFew 1000) l.met.items;
  brief : All (IsBrief l.fn.entries) l.met.items;
  within : l.schedules ≤ l.times;
}

abbrev pub decreases-loop-schedules : goal.decreases-loop-schedules
decreases-loop-schedules l = l.times - l.schedules
