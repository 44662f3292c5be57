-- The numbers of what is kept.
use Rattle.std.specs.Prelude.{◌≡◌, ℕ, List, Some}
use Rattle.std.specs.List.{slice_get}
use Rattle.world_search.specs.declared.landings.Landing.TheVariants as to
use Rattle.world_search.specs.declared.landings.Entered.{Entered}
use Rattle.world_search.specs.declared.landings.Entered.TheVariants as came

-- the result is the number of p in the list, or that there was no room
abbrev pub IsKept : {A : Type 0} → List A → Entered → A → Type 0
IsKept ps (came.At (to.World j)) p = slice_get ps j ≡ Some p
IsKept ps (came.At (to.Fault j)) p = ⊥
IsKept ps came.Full p = Unit {0}

-- nothing is kept twice
abbrev pub AreSingle : {A : Type 0} → List A → Type 0
AreSingle xs = (i j : ℕ) (x : _) → slice_get xs i ≡ Some x → slice_get xs j ≡ Some x → i ≡ j
