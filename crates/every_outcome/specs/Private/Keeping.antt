-- The result of adding a world.
use Rattle.std.specs.Prelude.{◌≡◌, ℕ, List, Some}
use Rattle.std.specs.List.{slice_get}
use Rattle.cell_registry.specs.declared.limits.RunError.{RunError}
use Rattle.cell_registry.specs.declared.limits.RunError.TheVariants as run
use Rattle.world_search.specs.declared.landings.Landing.TheVariants as to
use Rattle.world_search.specs.declared.landings.Entered.{Entered}
use Rattle.world_search.specs.declared.landings.Entered.TheVariants as came
use Rattle.every_schedule.specs.Claims.{View}

-- the world has this number, unless there was no room
abbrev pub IsKept : {A : Type 0} → List A → Entered → A → Type 0
IsKept ps (came.At (to.World j)) p = slice_get ps j ≡ Some p
IsKept ps (came.At (to.Fault j)) p = ⊥
IsKept ps came.Full p = Unit {0}

-- the views and faults that are kept, and the number of bytes that are counted for them
pub record KeptViews : Type 0 where
  pub views : List View
  pub faults : List RunError
  pub bytes : ℕ

-- no element occurs twice
abbrev pub AreSingle : {A : Type 0} → List A → Type 0
AreSingle xs = (i j : ℕ) (x : _) → slice_get xs i ≡ Some x → slice_get xs j ≡ Some x → i ≡ j

-- the numbers of a band are used up
abbrev pub IsFull : RunError → Type 0
IsFull (run.Full band n) = Unit {0}
IsFull _ = ⊥
