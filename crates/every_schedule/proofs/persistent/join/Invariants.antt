use Rattle.std.proofs.Common.{◌≡◌, false, take}
use Rattle.every_schedule.specs.Private.Persistent.{joined_by}
use Rattle.every_schedule.proofs.persistent.join.Given as goal

-- the fibers of the row so far have joined
abbrev pub invariant-loop-place : goal.invariant-loop-place
invariant-loop-place l = record {
  joined : l.set ≡ joined_by (take l.place l.row) l.initial.set;
  stays : l.any ≡ false → l.set ≡ l.initial.set;
}
