use Rattle.std.proofs.Common.{◌≡◌, ◌++◌, drop}
use Rattle.every_schedule.specs.Private.Persistent.{row}
use Rattle.every_schedule.specs.Private.Standing.{IsSame, here}
use Rattle.every_schedule.proofs.persistent.row_of.Given as goal

-- the flags so far and those of the other fibers are the row
abbrev pub invariant-loop-place : goal.invariant-loop-place
invariant-loop-place l = record {
  same : IsSame l.initial.current l.current;
  row : l.row.items ++ row l.needs l.place (drop l.place (here l.initial.current).world.fibers) ≡
      row l.needs 0 (here l.initial.current).world.fibers;
}
