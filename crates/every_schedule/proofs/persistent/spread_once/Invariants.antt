use Rattle.std.proofs.Common.{◌≡◌, false}
use Rattle.scheduled_core.specs.Core.{World}
use Rattle.every_schedule.specs.Persistent.{spread}
use Rattle.every_schedule.specs.Private.Persistent.{AreRows}
use Rattle.every_schedule.proofs.persistent.spread_once.Given as goal

-- the set has grown by the fibers so far
abbrev pub invariant-loop-place : goal.invariant-loop-place
invariant-loop-place l = record {
  spread : (w : World) → AreRows w l.rows → l.set ≡ spread w l.place l.initial.set;
  stays : l.any ≡ false → l.set ≡ l.initial.set;
}
