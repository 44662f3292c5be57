use Rattle.std.proofs.Common.{◌≡◌, take}
use Rattle.every_outcome.proofs.core_world.copy_fibers.Given as goal

-- the fibers so far are copied
abbrev pub invariant-loop-fiber : goal.invariant-loop-fiber
invariant-loop-fiber l = l.copies.items ≡ take l.fiber-index l.fibers
