use Rattle.std.proofs.Common.{◌≡◌, true}
use Rattle.every_schedule.specs.Persistent.{stand}
use Rattle.every_schedule.specs.Private.Standing.{here}
use Rattle.every_schedule.proofs.persistent.is_persistent.Given as goal

-- the fibers so far stand
abbrev pub invariant-loop-place : goal.invariant-loop-place
invariant-loop-place l = stand (here l.current).world l.set l.place ≡ true
