-- Moves that are counted: how many each fiber can still make, and how entries use them up.
use Rattle.std.specs.Prelude.{◌≡◌, ◌⊎◌, ◌-◌, ◌^◌, ℕ, suc, List, [], ◌∷◌, ◌++◌, None, Ok, Some, length, min, replicate, slice_set}
use Rattle.std.specs.List.{slice_get}
use Rattle.derived_ops.specs.Tree.{Tree}
use Rattle.fiber_frames.specs.Fiber.{Fiber, outcome_of}
use Rattle.cell_registry.specs.declared.limits.Limits.{Limits}
use Rattle.scheduled_core.specs.declared.report.Report.{Report}
use Rattle.scheduled_core.specs.Core.{World, entered, first_world, reported}
use Rattle.scheduled_core.specs.Finals.{HasEnded, IsAtRest}

-- the number of moves left to each fiber after a move of fiber f, which has now this number left; a fiber that it has
-- started begins with as many
abbrev pub spent : List ℕ → ℕ → ℕ → ℕ → List ℕ
spent lefts f left births = slice_set lefts f left ++ replicate births left

-- These entries lead from the world w, where `lefts` has the number of moves left to each fiber, to the world v, where
-- `last` has it. Each entry is of a started fiber that hasn't ended and has moves left, and takes one of these
abbrev pub Spends : Limits → World → List ℕ → List ℕ → World → List ℕ → Type 0
Spends k w lefts [] v last = (w ≡ v) × (lefts ≡ last)
Spends k w lefts (f ∷ entries) v last = (g : Fiber) × (left : ℕ) × (u : World) × (slice_get w.fibers f ≡ Some g) ×
    (outcome_of g ≡ None) × (slice_get lefts f ≡ Some (suc left)) × (entered k (Ok w) f ≡ Ok u) ×
    Spends k u (spent lefts f left (length u.fibers - length w.fibers)) entries v last

-- some entries do so
abbrev pub SpendsSome : Limits → World → List ℕ → World → List ℕ → Type 0
SpendsSome k w lefts v last = (entries : List ℕ) × Spends k w lefts entries v last

-- some entries do so, and `many` is their number, at most 2 ^ 64 - 1
pub record SpendsMany (k : Limits) (w : World) (lefts : List ℕ) (many : ℕ) (v : World) (last : List ℕ) : Type 0 where
  pub entries : List ℕ
  pub spends : Spends k w lefts entries v last
  pub count : many ≡ min (length entries) (2 ^ 64 - 1)

-- each fiber has ended, or rests, or has no moves left
abbrev pub AreSpent : World → List ℕ → Type 0
AreSpent w lefts = (f : ℕ) (g : Fiber) → slice_get w.fibers f ≡ Some g →
    (HasEnded g ⊎ IsAtRest w.cells f g) ⊎ (slice_get lefts f ≡ Some 0)

-- The report is that of a schedule of moves in which fiber 0 makes at most `most`, and each other fiber at most as many
-- as its parent had left when it started it. Each fiber that hasn't ended rests, or has used up its moves
pub record IsSpentReport (code : Tree) (k : Limits) (most : ℕ) (report : Report) : Type 0 where
  pub world : World
  pub lefts : List ℕ
  pub spends : SpendsSome k (first_world code k) (most ∷ []) world lefts
  pub spent_all : AreSpent world lefts
  pub reports : reported (Ok world) ≡ Ok report
