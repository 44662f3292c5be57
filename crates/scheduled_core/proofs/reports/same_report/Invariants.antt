use Rattle.std.proofs.Common.{◌≡◌, map, take}
use Rattle.scheduled_core.specs.Core.{fiber_report as report_of}
use Rattle.scheduled_core.proofs.reports.same_report.Given as goal

-- the fibers so far have come to the same
abbrev pub invariant-loop-index : goal.invariant-loop-index
invariant-loop-index l = map report_of (take l.index l.one) ≡ map report_of (take l.index l.other)
