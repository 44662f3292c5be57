use Rattle.std.proofs.Common.{◌≡◌, ◌+◌, ◌≤◌, drop}
use Rattle.every_schedule.specs.Private.Persistent.{least}
use Rattle.every_schedule.proofs.persistent.least.Given as goal

-- those so far and the others are all
abbrev pub invariant-loop-place : goal.invariant-loop-place
invariant-loop-place l = record {
  few : l.many ≤ l.place;
  all : l.many + least l.seed l.place (drop l.place l.row) ≡ least l.seed 0 l.row;
}
