use Rattle.std.proofs.Common.{◌≡◌, take}
use Rattle.sampled_schedules.proofs.sampled.copies.Given as goal

-- the fibers so far are copied
abbrev pub invariant-loop-fiber : goal.invariant-loop-fiber
invariant-loop-fiber l = l.copies.items ≡ take l.fiber-index l.fibers
