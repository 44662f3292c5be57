use Rattle.std.proofs.Common.{◌≡◌, map, take}
use Rattle.every_outcome.specs.Places.{shown, with_says}
use Rattle.every_outcome.proofs.shape.shapes_of.Given as goal

-- the shapes so far
abbrev pub invariant-loop-fiber : goal.invariant-loop-fiber
invariant-loop-fiber l = l.shapes.items ≡ map (shown (with_says l.search)) (take l.fiber-index l.fibers)
