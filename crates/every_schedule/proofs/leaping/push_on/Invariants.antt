use Rattle.std.proofs.Common.{◌≡◌, ◌-◌, false}
use Rattle.scheduled_core.specs.Fitting.{AllFit}
use Rattle.every_schedule.specs.Reduced.{moved_on}
use Rattle.every_schedule.specs.Private.Standing.{IsOnward, here}
use Rattle.every_schedule.specs.Private.Trails.{IsOwnTrail}
use Rattle.every_schedule.proofs.leaping.push_on.Given as goal

-- the moves so far have led here, and the others lead on
abbrev pub invariant-loop-again : goal.invariant-loop-again
invariant-loop-again l = record {
  onward : IsOnward l.initial.current l.current;
  goes : moved_on l.at_once l.at_once.most l.fiber (here l.initial.current) ≡ moved_on l.at_once (l.at_once.most - l._again) l.fiber (here l.current);
  stays : l.moved ≡ false → here l.current ≡ here l.initial.current;
  fits : AllFit (here l.current).world;
  trail : IsOwnTrail l.at_once l.initial.trail.items l.trail.items (here l.initial.current) (here l.current);
}
