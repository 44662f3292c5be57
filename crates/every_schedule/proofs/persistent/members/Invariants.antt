use Rattle.std.proofs.Common.{◌≡◌, ◌+◌, ◌≤◌, drop}
use Rattle.every_schedule.specs.Persistent.{members}
use Rattle.every_schedule.proofs.persistent.members.Given as goal

-- those so far and the others are the members
abbrev pub invariant-loop-place : goal.invariant-loop-place
invariant-loop-place l = record {
  few : l.many ≤ l.place;
  all : l.many + members (drop l.place l.set) ≡ members l.set;
}
