-- What contracts see of a bay and of its seats.
use Rattle.std.specs.Prelude.{◌≡◌, ◌==◌, ◌<◌, ℕ, if◌then◌else◌, Option}
use Rattle.atomic_table.specs.Seated.{TableId}
use Rattle.fiber_poll.specs.declared.topic.Topic.{Topic}
use Rattle.fiber_poll.specs.declared.topic.Topic.TheVariants.{Fiber, Deferred, Never}
use Rattle.wait_bay.specs.declared.fault.PutError.{PutError}
use Rattle.wait_bay.specs.declared.fault.PutError.TheVariants.{WrongSlot, Occupied}
use Rattle.wait_bay.specs.Names.{Named}

-- a seat: its table, and what it knows the bay to name
pub record SeatView : Type 0 where
  pub table : TableId
  pub named : Option Named

-- a bay: its table, what it names, and its numbers of fibers and deferreds
pub record BayView : Type 0 where
  pub table : TableId
  pub named : Option Named
  pub fibers : ℕ
  pub deferreds : ℕ

-- the seat belongs to this bay
pub record IsSeatOf (b : BayView) (s : SeatView) : Type 0 where
  pub table : s.table ≡ b.table
  pub named : s.named ≡ b.named

-- the bay has a list for the topic, or the topic needs none
abbrev pub IsWithin : BayView → Topic → Type 0
IsWithin b (Fiber f) = f < b.fibers
IsWithin b (Deferred d) = d < b.deferreds
IsWithin b Never = Unit {0}

-- why the slot of the fiber f refuses the task of this number
abbrev pub refusal : ℕ → ℕ → PutError
refusal f number = if number == f then Occupied f else WrongSlot f
