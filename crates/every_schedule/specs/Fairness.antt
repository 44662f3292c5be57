-- Whether every fair schedule of a program ends.
use Rattle.std.specs.Prelude.{◌≡◌, ◌⊎◌, ◌++◌, ℕ, zero, suc, List, [], Result, Ok, Err}
use Rattle.derived_ops.specs.Tree.{Tree}
use Rattle.cell_registry.specs.declared.limits.Limits.{Limits}
use Rattle.cell_registry.specs.declared.limits.RunError.{RunError}
use Rattle.scheduled_core.specs.Core.{World, core, entered}
use Rattle.scheduled_core.specs.Finals.{IsFinal}
use Rattle.world_search.specs.Lists.{IsIn}
use Rattle.fair_ends.specs.Fair.{first_of}
use Rattle.every_schedule.specs.Places.{unnoted}

-- a schedule has led to a final world, in which no fiber can go on, or to a fault
abbrev pub IsOver : Result World RunError → Type 0
IsOver (Ok w) = IsFinal w
IsOver (Err e) = Unit {0}

-- some first entries of an infinite schedule lead to a final world, or to a fault
abbrev pub Ends : Tree → Limits → (ℕ → ℕ) → Type 0
Ends code k schedule = (n : ℕ) × IsOver (core code k (first_of schedule n))

-- the entries of a cycle, n times
abbrev pub repeated : List ℕ → ℕ → List ℕ
repeated cycle zero = []
repeated cycle (suc n) = repeated cycle n ++ cycle

-- A cycle that a fair schedule repeats for ever. The entries of `stem` lead to a world that isn't final: a fiber can go
-- on there. The entries of `cycle`, any number of times, lead back to that world, apart from the notes of joins. Each
-- fiber has an entry in `cycle`, or its entry at that world changes only these notes
pub record IsForever (code : Tree) (k : Limits) (stem cycle : List ℕ) : Type 0 where
  pub world : World
  pub comes : core code k stem ≡ Ok world
  pub unrested : IsFinal world → ⊥
  pub again : (n : ℕ) → (v : World) × (core code k (stem ++ repeated cycle n) ≡ Ok v) × (unnoted v ≡ unnoted world)
  pub fair : (f : ℕ) → IsIn f cycle ⊎ ((v : World) → entered k (Ok world) f ≡ Ok v → unnoted v ≡ unnoted world)
