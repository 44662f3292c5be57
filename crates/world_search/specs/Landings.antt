-- The numbers by which a store names where an entry leads.
use Rattle.std.specs.Prelude.{◌≡◌, ◌⊎◌, ℕ, ◌+◌, ◌≤◌, List, Some, Result, Ok, Err}
use Rattle.std.specs.List.{slice_get}
use Rattle.world_search.specs.declared.landings.Landing.{Landing}
use Rattle.world_search.specs.declared.landings.Landing.TheVariants as to
use Rattle.world_search.specs.declared.landings.Entered.{Entered}
use Rattle.world_search.specs.declared.landings.Entered.TheVariants as came

module _ {W E : Type 0} (ws : List W) (es : List E) where
  -- the result of an entry is the world or the fault of this number in these lists
  abbrev pub LandsAt : Landing → Result W E → Type 0
  LandsAt (to.World j) y = (w : W) × (slice_get ws j ≡ Some w) × (y ≡ Ok w)
  LandsAt (to.Fault j) y = (e : E) × (slice_get es j ≡ Some e) × (y ≡ Err e)

  -- the same for the result of an entry; nothing is said if there was no room
  abbrev pub EntersAt : Entered → Result W E → Type 0
  EntersAt (came.At l) y = LandsAt l y
  EntersAt came.Full y = Unit {0}

-- An entry adds no world, or one with the next number. If there is no room, there are at least `most` worlds
abbrev pub IsNext : (before after most : ℕ) → Entered → Type 0
IsNext before after most (came.At (to.World j)) = (after ≡ before) ⊎ ((j ≡ before) × (after ≡ before + 1))
IsNext before after most (came.At (to.Fault j)) = after ≡ before
IsNext before after most came.Full = (after ≡ before) × (most ≤ before)
