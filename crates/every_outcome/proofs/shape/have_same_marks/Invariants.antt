use Rattle.std.proofs.Common.{◌≡◌, map, take}
use Rattle.every_outcome.specs.Places.{marks_of}
use Rattle.every_outcome.proofs.shape.have_same_marks.Given as goal

-- the fibers so far have the same marks
abbrev pub invariant-loop-index : goal.invariant-loop-index
invariant-loop-index l = map marks_of (take l.index l.one) ≡ map marks_of (take l.index l.other)
