use Rattle.std.proofs.Common.{◌≡◌, take}
use Rattle.every_outcome.proofs.shape.same_shapes.Given as goal

-- the shapes so far are the same
abbrev pub invariant-loop-i : goal.invariant-loop-i
invariant-loop-i l = take l.i l.one ≡ take l.i l.other
