use Rattle.std.proofs.Common.{take}
use Rattle.std.specs.List.{All}
use Rattle.derived_ops.specs.Expansion.{code_of}
use Rattle.derived_ops.specs.Reading.{source_of}
use Rattle.every_schedule.specs.Claims.{IsMetIn}
use Rattle.every_schedule.proofs.claimed.many_met.Given as goal

-- the claims so far are met
abbrev pub invariant-loop-i : goal.invariant-loop-i
invariant-loop-i l = All (IsMetIn (code_of (source_of l.program)) l.limits l.claims) (take l.i l.found)
