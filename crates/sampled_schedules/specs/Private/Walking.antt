-- Where entries lead, one after another.
use Rattle.std.specs.Prelude.{◌≡◌, ◌+◌, ◌<◌, ◌≤◌, ℕ, Bool, false, List, length, Option, Some, None, Result, Ok, Err}
use Rattle.std.specs.List.{All, slice_get}
use Rattle.derived_ops.specs.Tree.{Tree}
use Rattle.fiber_frames.specs.Fiber.{Fiber, outcome_of}
use Rattle.cell_registry.specs.declared.limits.Limits.{Limits}
use Rattle.cell_registry.specs.declared.limits.RunError.{RunError}
use Rattle.scheduled_core.specs.Core.{World, core}

-- this world, or the fault
abbrev pub came : {A : Type 0} → Result A RunError → World → Result World RunError
came (Ok done) w = Ok w
came (Err e) w = Err e

-- whether the entries were cut short
abbrev pub was_cut : Result Bool RunError → Bool
was_cut (Ok cut) = cut
was_cut (Err e) = false

-- the same result, of a drawing that nothing ended
abbrev pub was_walked : Result Bool RunError → Result (Option Bool) RunError
was_walked (Ok cut) = Ok (Some cut)
was_walked (Err e) = Err e

-- one of these fibers hasn't ended
abbrev pub HasUnendedFiber : List Fiber → Type 0
HasUnendedFiber fibers = (f : ℕ) × (g : Fiber) × (slice_get fibers f ≡ Some g) × (outcome_of g ≡ None)

-- The entries `before` led to this world, and `after` extends them by at most `most` entries and leads to this end.
-- Each entry is the number of a fiber, if those before were.
pub record IsWalk (k : Limits) (w : World) (before : List ℕ) (end : Result World RunError) (after : List ℕ) (most : ℕ) :
    Type 0
  where
    pub leads : (code : Tree) → core code k before ≡ Ok w → core code k after ≡ end
    pub numbers : All (λ f. f < 1000) before → All (λ f. f < 1000) after
    pub short : length after ≤ length before + most
