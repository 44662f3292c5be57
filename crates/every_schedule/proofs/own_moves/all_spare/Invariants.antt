use Rattle.std.proofs.Common.{◌≡◌, drop}
use Rattle.every_schedule.specs.Reduced.{keeps, others}
use Rattle.every_schedule.specs.Private.Standing.{IsSame, here}
use Rattle.every_schedule.proofs.own_moves.all_spare.Given as goal

-- the fibers so far keep off the number
abbrev pub invariant-loop-place : goal.invariant-loop-place
invariant-loop-place l = record {
  same : IsSame l.initial.current l.current;
  spared : others (keeps l.what l.number) l.by 0 (here l.initial.current).world.fibers ≡
      others (keeps l.what l.number) l.by l.place (drop l.place (here l.initial.current).world.fibers);
}
