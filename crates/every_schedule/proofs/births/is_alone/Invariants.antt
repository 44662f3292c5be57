use Rattle.std.proofs.Common.{◌≡◌, drop}
use Rattle.every_schedule.specs.Reduced.{keeps, others}
use Rattle.every_schedule.specs.Private.Standing.{IsSame, here}
use Rattle.every_schedule.proofs.births.is_alone.Given as goal

-- the fibers so far can no longer make such a thing
abbrev pub invariant-loop-place : goal.invariant-loop-place
invariant-loop-place l = record {
  same : IsSame l.initial.current l.current;
  spared : others (keeps l.what 0) l.by 0 (here l.initial.current).world.fibers ≡
      others (keeps l.what 0) l.by l.place (drop l.place (here l.initial.current).world.fibers);
}
