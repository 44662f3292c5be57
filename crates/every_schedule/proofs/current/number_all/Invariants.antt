use Rattle.std.proofs.Common.{take}
use Rattle.world_search.specs.Lists.{IsMore}
use Rattle.every_schedule.specs.Private.Numbered.{AreAt}
use Rattle.every_schedule.proofs.current.number_all.Given as goal

-- the fibers so far have numbers
abbrev pub invariant-loop-i : goal.invariant-loop-i
invariant-loop-i l = record {
  more : IsMore l.initial.pool.items.items l.pool.items.items;
  numbers : AreAt l.pool.items.items l.numbers.items (take l.i l.fibers);
}
