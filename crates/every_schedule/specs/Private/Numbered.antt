-- Worlds by the numbers of their states.
use Rattle.std.specs.Prelude.{◌≡◌, ◌≢◌, ◌⊎◌, ◌<◌, ◌≤◌, ◌++◌, ℕ, List, [], ◌∷◌, length, Option, Some, None}
use Rattle.std.specs.List.{slice_get}
use Rattle.std.specs.Option.{option_to_list}
use Rattle.cell_registry.specs.declared.limits.Limits.{Limits}
use Rattle.cell_registry.specs.Cells.{Cells, opening}
use Rattle.cell_registry.specs.Plain.{PlainView}
use Rattle.fiber_frames.specs.Fiber.{Fiber}
use Rattle.scheduled_core.specs.Fitting.{AllFit, world_of}
use Rattle.every_schedule.specs.Places.{Place}

-- the numbers of a world's states: that of its registry, and those of its fibers
pub record Numbers : Type 0 where
  pub registry : ℕ
  pub fibers : List ℕ

-- the states of these numbers
abbrev pub picked : List Fiber → List ℕ → List Fiber
picked fs [] = []
picked fs (n ∷ ns) = option_to_list (slice_get fs n) ++ picked fs ns

-- the cells of a registry, if there is one
abbrev pub cells_in : Limits → Option PlainView → Cells
cells_in k (Some r) = r.state
cells_in k None = opening k

module _ (k : Limits) (fs : List Fiber) (rs : List PlainView) where
  -- the world of these numbers
  abbrev pub place_of : Numbers → Place
  place_of n = record { limits = k; world = world_of (picked fs n.fibers) (cells_in k (slice_get rs n.registry)) }

-- the i-th fiber has the state of this number
abbrev pub IsAt : List Fiber → List Fiber → ℕ → ℕ → Type 0
IsAt fs gs i n = (g : Fiber) × (slice_get gs i ≡ Some g) × (slice_get fs n ≡ Some g)

-- the states of these numbers are the first of these fibers
pub record AreFirst (fs : List Fiber) (ns : List ℕ) (gs : List Fiber) : Type 0 where
  pub many : length ns ≤ length gs
  pub each : (i n : ℕ) → slice_get ns i ≡ Some n → IsAt fs gs i n

-- the states of these numbers are these fibers
pub record AreAt (fs : List Fiber) (ns : List ℕ) (gs : List Fiber) : Type 0 where
  pub many : length ns ≡ length gs
  pub each : (i n : ℕ) → slice_get ns i ≡ Some n → IsAt fs gs i n

-- the states of these numbers are these fibers, except perhaps at the place `moved`
abbrev pub AreKnown : List Fiber → List ℕ → List Fiber → ℕ → Type 0
AreKnown fs ns gs moved = (i n : ℕ) → i ≢ moved → slice_get ns i ≡ Some n → IsAt fs gs i n

-- the states of these numbers make this world
pub record IsWorldOf (fs : List Fiber) (rs : List PlainView) (n : Numbers) (p : Place) : Type 0 where
  pub fibers : AreAt fs n.fibers p.world.fibers
  pub registry : slice_get rs n.registry ≡ Some record { limits = p.limits; state = p.world.cells }

-- the numbers make a world under these limits, and its fibers fit its cells
pub record IsWorld (k : Limits) (fs : List Fiber) (rs : List PlainView) (n : Numbers) : Type 0 where
  pub place : Place
  pub limits : place.limits ≡ k
  pub is : IsWorldOf fs rs n place
  pub fits : AllFit place.world

-- each row makes a world
abbrev pub AreWorlds : Limits → List Fiber → List PlainView → List Numbers → Type 0
AreWorlds k fs rs rows = (i : ℕ) (n : Numbers) → slice_get rows i ≡ Some n → IsWorld k fs rs n

-- the new list is the old one, or has n after it
abbrev pub MayAdd : {A : Type 0} → List A → List A → A → Type 0
MayAdd old new n = (new ≡ old) ⊎ (new ≡ old ++ n ∷ [])

-- the first i of these fibers have the states of the numbers `ns`, and the others still those of `was`
pub record AreBrought (fs : List Fiber) (was ns : List ℕ) (gs : List Fiber) (i : ℕ) : Type 0 where
  pub least : i ≤ length gs
  pub most : length gs ≤ length ns
  pub kept : (j : ℕ) → j < length was → j < length ns → j < length gs
  pub brought : (j n : ℕ) → j < i → slice_get ns j ≡ Some n → IsAt fs gs j n
  pub behind : (j n : ℕ) → i ≤ j → j < length gs → slice_get was j ≡ Some n → IsAt fs gs j n

-- all elements but the i-th stay
abbrev pub SameBut : {A : Type 0} → ℕ → List A → List A → Type 0
SameBut i old new = (j : ℕ) → j ≢ i → slice_get new j ≡ slice_get old j
