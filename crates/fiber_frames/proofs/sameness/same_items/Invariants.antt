use Rattle.std.proofs.Common.{◌≡◌, take}
use Rattle.fiber_frames.proofs.sameness.same_items.Given as goal

-- the items so far are the same
abbrev pub invariant-loop-index : goal.invariant-loop-index
invariant-loop-index g l = take l.index l.one ≡ take l.index l.other
