-- Why fibers haven't ended in a world.
use Rattle.std.specs.Prelude.{◌≡◌, ◌+◌, ℕ, Bool, true, false, List, [], ◌∷◌, ◌++◌, codes, Ok, Err}
use Rattle.std.specs.Fmt.{decimal}
use Rattle.cell_registry.specs.declared.limits.Limits.{Limits}
use Rattle.cell_registry.specs.declared.limits.RunError.{RunError}
use Rattle.cell_registry.specs.Cells.{Cells}
use Rattle.derived_ops.specs.Tree.{Tree}
use Rattle.fiber_frames.specs.Fiber.{Fiber}
use Rattle.scheduled_core.specs.Core.{World, core}
use Rattle.scheduled_core.specs.Finals.{IsFinal}
use Rattle.scheduled_core.specs.Whys.{IsWhy}
use Rattle.scheduled_core.specs.declared.why.Why.{Why}
use Rattle.scheduled_core.specs.declared.why.Why.TheVariants.{Ended, WaitsForEnd, WaitsForDeferred, WaitsWithoutEnd}
use Rattle.scheduled_core.specs.declared.why.Why.TheVariants.{CouldGoOn}

-- what is written about a deferred that a fiber waits for: that no fiber completes it, if the world is final
abbrev pub uncompleted : Bool → List ℕ
uncompleted true = codes ", which nobody completes" ++ 10 ∷ []
uncompleted false = codes ", which is empty at the end" ++ 10 ∷ []

-- the line of fiber n
abbrev pub why_line : Bool → ℕ → Why → List ℕ
why_line final n Ended = []
why_line final n (WaitsForEnd f) =
    codes "fiber " ++ (decimal n ++ (codes " waits for the end of fiber " ++ (decimal f ++ 10 ∷ [])))
why_line final n (WaitsForDeferred d) =
    codes "fiber " ++ (decimal n ++ (codes " waits for deferred " ++ (decimal d ++ uncompleted final)))
why_line final n WaitsWithoutEnd = codes "fiber " ++ (decimal n ++ (codes " waits without end" ++ 10 ∷ []))
why_line final n CouldGoOn = codes "fiber " ++ (decimal n ++ (codes " could still go on" ++ 10 ∷ []))

-- a line for each of these fibers that hasn't ended; their numbers count up from n
abbrev pub AreWhyLines : Bool → Cells → ℕ → List Fiber → List ℕ → Type 0
AreWhyLines final s n [] told = told ≡ []
AreWhyLines final s n (g ∷ gs) told = (why : Why) × (behind : List ℕ) × IsWhy s n g why ×
    (told ≡ why_line final n why ++ behind) × AreWhyLines final s (n + 1) gs behind

-- The reasons of a code under a schedule: why each fiber hasn't ended in the world that the schedule leads to. A fault
-- has no reasons, since its line reports it.
pub data IsUnendedText (code : Tree) (limits : Limits) (schedule : List ℕ) : List ℕ → Type 0 where
  unended : (w : World) (final : Bool) (told : List ℕ) → core code limits schedule ≡ Ok w →
      (final ≡ true → IsFinal w) → AreWhyLines final w.cells 0 w.fibers told → IsUnendedText code limits schedule told
  fault : (e : RunError) → core code limits schedule ≡ Err e → IsUnendedText code limits schedule []
