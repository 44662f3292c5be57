use Rattle.std.{proofs.Common.{◌≡◌, take}, specs.List.fold}
use Rattle.every_schedule.specs.Private.Reporting.{with_state}
use Rattle.every_schedule.proofs.reports.digest_of.Given as goal

-- the digest of the states so far
abbrev pub invariant-loop-number : goal.invariant-loop-number
invariant-loop-number l = l.digest ≡ fold (with_state l.pool.items.items) 1 (take l.number-index l.numbers)
