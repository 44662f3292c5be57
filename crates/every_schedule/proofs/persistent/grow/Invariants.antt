use Rattle.std.proofs.Common.{◌≡◌, ◌-◌, length}
use Rattle.scheduled_core.specs.Core.{World}
use Rattle.every_schedule.specs.Persistent.{grown}
use Rattle.every_schedule.specs.Private.Persistent.{AreRows}
use Rattle.every_schedule.proofs.persistent.grow.Given as goal

-- the set so far grows to the same set
abbrev pub invariant-loop-again : goal.invariant-loop-again
invariant-loop-again l = (w : World) → AreRows w l.rows → grown (length l.rows - l._again) w l.set ≡ grown (length l.rows) w l.initial.set
