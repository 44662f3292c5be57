-- Worlds by their numbers, each with the refs that were set before.
use Rattle.std.specs.Prelude.{◌≡◌, ◌<◌, ℕ, List, [], length, Option, Some, None}
use Rattle.std.specs.List.{slice_get}
use Rattle.cell_registry.specs.declared.limits.Limits.{Limits}
use Rattle.cell_registry.specs.declared.limits.RunError.{RunError}
use Rattle.cell_registry.specs.Cells.{opening}
use Rattle.world_search.specs.declared.landings.Landing.TheVariants as to
use Rattle.world_search.specs.declared.landings.Entered.{Entered}
use Rattle.world_search.specs.declared.landings.Entered.TheVariants as came
use Rattle.every_schedule.specs.Claims.{View}
use Rattle.every_schedule.specs.Places.{Place}
use Rattle.every_schedule.specs.Private.Keeping.{IsKept}
use Rattle.every_schedule.specs.Private.Numbered.{MayAdd}

-- the number of a world, and the refs that were set before
pub record Marked : Type 0 where
  pub world : ℕ
  pub seen : List ℕ

-- a world without fibers, for a number that has none
abbrev pub no_limits : Limits
no_limits = record { fibers = 0; refs = 0; deferreds = 0; count = 0 }

abbrev pub nowhere : Place
nowhere = record { limits = no_limits; world = record { fibers = []; cells = opening no_limits } }

abbrev pub place_in : Option Place → Place
place_in (Some p) = p
place_in None = nowhere

abbrev pub view_of : List Place → Marked → View
view_of places m = record { place = place_in (slice_get places m.world); seen = m.seen }

-- each row has the number of a place
abbrev pub AreThere : List Place → List Marked → Type 0
AreThere places rows = (i : ℕ) (m : Marked) → slice_get rows i ≡ Some m → m.world < length places

-- what a search for claims keeps, and the bytes counted for it
pub record KeptViews : Type 0 where
  pub views : List View
  pub faults : List RunError
  pub bytes : ℕ

-- at most one row is added: that of the world to which the entry led
abbrev pub IsRowAdded : (old new : List Marked) → Entered → List ℕ → Type 0
IsRowAdded old new (came.At (to.World j)) seen = MayAdd old new record { world = j; seen = seen }
IsRowAdded old new (came.At (to.Fault j)) seen = new ≡ old
IsRowAdded old new came.Full seen = new ≡ old

-- the row is kept, or the result is the same fault, or there was no room
abbrev pub IsRowMet : List Marked → Entered → Entered → List ℕ → Type 0
IsRowMet rows it (came.At (to.World j)) seen = IsKept rows it record { world = j; seen = seen }
IsRowMet rows it (came.At (to.Fault j)) seen = it ≡ came.At (to.Fault j)
IsRowMet rows it came.Full seen = it ≡ came.Full
