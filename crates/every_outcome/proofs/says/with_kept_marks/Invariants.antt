use Rattle.std.{proofs.Common.{◌≡◌, take}, specs.List.fold}
use Rattle.every_outcome.specs.{Places.with_says, Private.Digests.with_kept_mark}
use Rattle.every_outcome.proofs.says.with_kept_marks.Given as goal

-- the digest with the marks so far
abbrev pub invariant-loop-mark : goal.invariant-loop-mark
invariant-loop-mark l = l.extended ≡ fold (with_kept_mark (with_says l.search)) l.digest (take l.mark-index l.marks)
