use Rattle.std.proofs.Common.{◌≡◌, take}
use Rattle.sampled_schedules.proofs.ends.same_reports.Given as goal

-- the fibers so far have equal reports
abbrev pub invariant-loop-index : goal.invariant-loop-index
invariant-loop-index l = take l.index l.one ≡ take l.index l.other
