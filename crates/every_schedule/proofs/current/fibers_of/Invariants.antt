use Rattle.every_schedule.specs.Private.Numbered.{AreAt}
use Rattle.std.proofs.Common.{take}
use Rattle.every_schedule.proofs.current.fibers_of.Given as goal

-- the fibers so far have the states of their numbers
abbrev pub invariant-loop-i : goal.invariant-loop-i
invariant-loop-i l = AreAt l.pool.items.items (take l.i l.numbers) l.fibers.items
