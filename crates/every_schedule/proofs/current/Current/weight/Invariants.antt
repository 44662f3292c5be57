use Rattle.std.proofs.Common.{◌≡◌, ◌+◌, ◌≤◌, drop}
use Rattle.every_schedule.specs.Persistent.{weights}
use Rattle.every_schedule.specs.Sizes.{capped}
use Rattle.every_schedule.specs.Private.Standing.{here}
use Rattle.every_schedule.proofs.current.Current.weight.Given as goal

-- those so far and the others weigh as much as all
abbrev pub invariant-loop-place : goal.invariant-loop-place
invariant-loop-place l = record {
  low : l.sum ≤ 18446744073709551615;
  sum : capped (l.sum + weights (drop l.place (here l.self).world.fibers)) ≡ capped (weights (here l.self).world.fibers);
}
