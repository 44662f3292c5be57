-- What the workers of a run leave: one pass that has met those of all tasks, the states of their fibers, and the
-- numbers of moves that they have left; and how they go on from there.
use Rattle.std.specs.Prelude.{◌≡◌, ◌⊎◌, ℕ, List, Ok, Some}
use Rattle.std.specs.List.{slice_get}
use mathlib.Core.List.{IsPrefix}
use Rattle.derived_ops.specs.Tree.{Tree}
use Rattle.fiber_frames.specs.Fiber.{Fiber}
use Rattle.cell_registry.specs.declared.call.Entry.{Entry}
use Rattle.cell_registry.specs.declared.limits.Limits.{Limits}
use Rattle.cell_registry.specs.Histories.{IsLegal, left}
use Rattle.cell_registry.specs.Passes.{IsOf, IsPass, PassView, RegistryView}
use Rattle.cell_registry.specs.Rule.{Has}
use Rattle.scheduled_core.specs.Core.{World, reported}
use Rattle.scheduled_core.specs.Fitting.{Fits, cell_registered}
use Rattle.scheduled_core.specs.Spending.{SpendsMany}
use Rattle.scheduled_core.specs.Stands.{Stands}
use Rattle.fiber_poll.specs.Tasks.{IsBroken}
use Rattle.run_ends.specs.declared.finishing.RunEnd.{RunEnd}

-- the state, with this number of moves left, is that of a fiber of the code under what the pass has seen, and the fiber
-- is one of the pass's. Unless the fiber is broken, the state agrees with what the fiber's calls in that history leave
pub record IsMet (code : Tree) (most : ℕ) (met : PassView) (rest : ℕ) (s : Fiber) : Type 0 where
  pub own : Has met.fibers s.number
  pub stands : Stands code most met.seen s.number s rest
  pub fits : IsBroken s ⊎ Fits (cell_registered (left met.registry.limits met.seen) s.number) s

-- the pass has met the passes of these states' tasks, and each fiber has the number of moves left that is at its number
pub record Gathered (r : RegistryView) (code : Tree) (most : ℕ) (met : PassView) (configs : List Fiber) (rests : List ℕ) :
    Type 0 where
  pub home : IsOf r met
  pub pass : IsPass met
  pub at : (i : ℕ) (s : Fiber) → slice_get configs i ≡ Some s → (rest : ℕ) × (slice_get rests s.number ≡ Some rest) ×
      IsMet code most met rest s

-- the world that is left: each fiber in its state, with the cells that some legal history leaves which begins with all
-- that the pass has seen
pub record IsLeftWorld (k : Limits) (met : PassView) (configs : List Fiber) (w : World) : Type 0 where
  pub states : (f : ℕ) (s : Fiber) → slice_get w.fibers f ≡ Some s → (s.number ≡ f) ×
      ((place : ℕ) × (slice_get configs place ≡ Some s))
  pub history : List Entry
  pub legal : IsLegal k history
  pub begins : IsPrefix met.seen history
  pub cells_are : w.cells ≡ left k history

-- the reported number of moves leads on from what is left, and the report is that of the world after them
pub record FinishesLeft (k : Limits) (met : PassView) (configs : List Fiber) (rests : List ℕ) (it : RunEnd) : Type 0 where
  pub before : World
  pub is_left : IsLeftWorld k met configs before
  pub after : World
  pub lasts : List ℕ
  pub spends : SpendsMany k before rests it.finished after lasts
  pub reports : reported (Ok after) ≡ Ok it.report
