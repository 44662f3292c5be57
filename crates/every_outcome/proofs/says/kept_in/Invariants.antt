use Rattle.std.proofs.Common.{◌≡◌, take}
use Rattle.every_outcome.specs.Places.{kept_marks, with_says}
use Rattle.every_outcome.proofs.says.kept_in.Given as goal

-- the marks so far
abbrev pub invariant-loop-mark : goal.invariant-loop-mark
invariant-loop-mark l = l.kept.items ≡ kept_marks (with_says l.search) (take l.mark-index l.marks)
