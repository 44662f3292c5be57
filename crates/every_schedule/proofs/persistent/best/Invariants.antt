use Rattle.every_schedule.specs.Persistent.{best}
use Rattle.every_schedule.specs.Private.Persistent.{IsBest}
use Rattle.every_schedule.specs.Private.Standing.{here}
use Rattle.every_schedule.proofs.persistent.best.Given as goal

-- the best of the fibers so far
abbrev pub invariant-loop-place : goal.invariant-loop-place
invariant-loop-place l = IsBest (here l.current).world (best (here l.current).world l.place) l.best
