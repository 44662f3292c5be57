use Rattle.std.proofs.Common.{◌≡◌, drop}
use Rattle.every_schedule.specs.Private.Persistent.{spared_by}
use Rattle.every_schedule.proofs.persistent.are_spared.Given as goal

-- the fibers so far are spared
abbrev pub invariant-loop-place : goal.invariant-loop-place
invariant-loop-place l = spared_by l.set 0 l.row ≡ spared_by l.set l.place (drop l.place l.row)
