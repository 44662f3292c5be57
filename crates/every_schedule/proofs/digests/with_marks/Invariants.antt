use Rattle.std.{proofs.Common.{◌≡◌, take}, specs.List.fold}
use Rattle.every_schedule.specs.Digests.{with_mark}
use Rattle.every_schedule.proofs.digests.with_marks.Given as goal

-- the digest with the marks so far
abbrev pub invariant-loop-mark : goal.invariant-loop-mark
invariant-loop-mark l = l.extended ≡ fold with_mark l.digest (take l.mark-index l.marks)
