use Rattle.std.proofs.Common.{◌≡◌, map, take}
use Rattle.fiber_frames.specs.Fiber.{outcome_of}
use Rattle.every_outcome.proofs.world.same_ends.Given as goal

-- the fibers so far have the same outcomes
abbrev pub invariant-loop-index : goal.invariant-loop-index
invariant-loop-index l = map outcome_of (take l.index l.one) ≡ map outcome_of (take l.index l.other)
