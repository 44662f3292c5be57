-- What a loop over the fibers of a run knows.
use Rattle.std.specs.Prelude.{◌≡◌, ◌⊎◌, ℕ, ◌+◌, ◌-◌, ◌*◌, ◌^◌, ◌≤◌, List, [], ◌∷◌, get_or, length, None, Some}
use Rattle.std.specs.List.{slice_get, sum_by}
use Rattle.fiber_frames.specs.Fiber.{Fiber, outcome_of}
use Rattle.cell_registry.specs.declared.limits.Limits.{Limits}
use Rattle.scheduled_core.specs.Core.{World}
use Rattle.scheduled_core.specs.Finals.{HasEnded, IsAtRest}
use Rattle.scheduled_core.specs.Spending.{Spends}

-- the fiber f hasn't ended
pub record IsUnended (fibers : List Fiber) (f : ℕ) : Type 0 where
  pub fiber : Fiber
  pub here : slice_get fibers f ≡ Some fiber
  pub unended : outcome_of fiber ≡ None

-- a bound on the moves that are left to all fibers, at most `most` of them: each fiber that isn't started yet can have
-- any number that fits 32 bits
abbrev pub moves_left : ℕ → List ℕ → ℕ
moves_left most rests = sum_by (λ n. n) rests + (most - length rests) * 2 ^ 32

-- each fiber has ended, or rests, or has at most this many moves left
abbrev pub HaveNoMore : World → List ℕ → ℕ → Type 0
HaveNoMore w lefts most = (f : ℕ) (g : Fiber) → slice_get w.fibers f ≡ Some g →
    (HasEnded g ⊎ IsAtRest w.cells f g) ⊎ (get_or lefts f 0 ≤ most)

-- an entry of this fiber leads from w to v, and takes one of its moves
abbrev pub IsSpentBy : Limits → World → List ℕ → ℕ → World → List ℕ → Type 0
IsSpentBy k w lefts f v last = Spends k w lefts (f ∷ []) v last
