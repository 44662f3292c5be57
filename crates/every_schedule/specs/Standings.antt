-- How far a world has come: whether a fiber can go on, and which fibers have ended.
use Rattle.std.specs.Prelude.{◌≡◌, ℕ, Some}
use Rattle.std.specs.List.{slice_get}
use Rattle.fiber_frames.specs.Fiber.{Fiber}
use Rattle.scheduled_core.specs.Core.{World}
use Rattle.scheduled_core.specs.Finals.{HasEnded, IsFinal}
use Rattle.every_schedule.specs.declared.progress.Progress.{Progress}
use Rattle.every_schedule.specs.declared.progress.Progress.TheVariants.{GoesOn, Deadlocked, LeftBehind, AllOver}

-- fiber 0 has ended
abbrev pub HasFirstEnded : World → Type 0
HasFirstEnded w = (g : Fiber) × (slice_get w.fibers 0 ≡ Some g) × HasEnded g

-- each fiber that was started has ended
abbrev pub HaveAllEnded : World → Type 0
HaveAllEnded w = (f : ℕ) (g : Fiber) → slice_get w.fibers f ≡ Some g → HasEnded g

-- The world stands so. In a final world no fiber can go on
abbrev pub IsStanding : World → Progress → Type 0
IsStanding w GoesOn = IsFinal w → ⊥
IsStanding w Deadlocked = IsFinal w × (HasFirstEnded w → ⊥)
IsStanding w LeftBehind = IsFinal w × HasFirstEnded w × (HaveAllEnded w → ⊥)
IsStanding w AllOver = IsFinal w × HasFirstEnded w × HaveAllEnded w
