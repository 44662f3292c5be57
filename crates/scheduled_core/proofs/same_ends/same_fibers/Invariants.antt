use Rattle.std.proofs.Common.{◌≡◌, take}
use Rattle.scheduled_core.proofs.same_ends.same_fibers.Given as goal

-- the fibers so far have come to the same
abbrev pub invariant-loop-index : goal.invariant-loop-index
invariant-loop-index l = take l.index l.one ≡ take l.index l.other
