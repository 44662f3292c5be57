-- The tasks on their way to a report.
use Rattle.std.specs.Prelude.{◌≡◌, ◌≢◌, ◌⊎◌, ℕ, ◌<◌, List, length, map, Some}
use Rattle.std.specs.List.{slice_get}
use mathlib.Core.List.{IsPrefix}
use Rattle.derived_ops.specs.Tree.{Tree}
use Rattle.fiber_frames.specs.Fiber.{Fiber}
use Rattle.cell_registry.specs.Histories.{calls_by}
use Rattle.cell_registry.specs.Passes.{IsOf, IsPass, PassView, RegistryView}
use Rattle.cell_registry.specs.Rule.{Has}
use Rattle.scheduled_core.specs.declared.report.FiberReport.{FiberReport}
use Rattle.scheduled_core.specs.Core.{fiber_report}
use Rattle.fiber_poll.specs.Tasks.{IsBroken, TaskView}
use Rattle.run_ends.specs.Leaving.{IsMet}

-- the task belongs to this registry
abbrev pub IsAtHome : RegistryView → TaskView → Type 0
IsAtHome r t = t.home ≡ r

-- the task's state is one of these, and the pass has seen what the task's own pass had, without a further call by its
-- fiber
pub record IsOut (t : TaskView) (met : PassView) (configs : List Fiber) : Type 0 where
  pub place : ℕ
  pub here : slice_get configs place ≡ Some t.state
  pub seen : IsPrefix t.pass.seen met.seen
  pub own : calls_by t.state.number met.seen ≡ calls_by t.state.number t.pass.seen

-- of all these tasks, the rest remain, and these are the states of the others, each of another fiber
pub record Taken (all rest : List TaskView) (met : PassView) (configs : List Fiber) : Type 0 where
  pub still : (i : ℕ) (t : TaskView) → slice_get rest i ≡ Some t → slice_get all i ≡ Some t
  pub out : (i : ℕ) (t : TaskView) → slice_get all i ≡ Some t → (slice_get rest i ≡ Some t) ⊎ IsOut t met configs
  pub from : (j : ℕ) (s : Fiber) → slice_get configs j ≡ Some s → (i : ℕ) × (t : TaskView) ×
      (slice_get all i ≡ Some t) × (t.state ≡ s)
  pub has : (j : ℕ) (s : Fiber) → slice_get configs j ≡ Some s → Has met.fibers s.number
  pub apart : (i j : ℕ) (s t : Fiber) → slice_get configs i ≡ Some s → slice_get configs j ≡ Some t →
      s.number ≡ t.number → s ≡ t

-- the state is one of these, and that of fiber f
pub record IsIn (s : Fiber) (configs : List Fiber) (f : ℕ) : Type 0 where
  pub number : s.number ≡ f
  pub place : ℕ
  pub here : slice_get configs place ≡ Some s

-- none of these states is the fiber's
abbrev pub IsNowhere : List Fiber → ℕ → Type 0
IsNowhere configs f = (place : ℕ) (s : Fiber) → slice_get configs place ≡ Some s → s.number ≢ f

-- these are the reports of the fibers below a number
pub record AreLines (configs : List Fiber) (born : ℕ) (lines : List FiberReport) : Type 0 where
  pub finals : List Fiber
  pub lines_are : lines ≡ map fiber_report finals
  pub many : length finals ≡ born
  pub each : (f : ℕ) (s : Fiber) → slice_get finals f ≡ Some s → IsIn s configs f

-- f is the least number below `born` of a fiber that has none of these states
pub record IsLeast (configs : List Fiber) (born f : ℕ) : Type 0 where
  pub below : f < born
  pub none : IsNowhere configs f
  pub before : (g : ℕ) → g < f → (s : Fiber) × IsIn s configs g

-- these are the states of the fibers below a number, in order, and none of them is broken
pub record AreInOrder (configs : List Fiber) (born : ℕ) (fibers : List Fiber) : Type 0 where
  pub many : length fibers ≡ born
  pub each : (f : ℕ) (s : Fiber) → slice_get fibers f ≡ Some s → IsIn s configs f × (IsBroken s → ⊥)

-- each of the first n of these tasks is at the place of its number, and these are the numbers of moves that they have
-- left
pub record AreRestsBelow (tasks : List TaskView) (n : ℕ) (rests : List ℕ) : Type 0 where
  pub many : length rests ≡ n
  pub each : (i : ℕ) (t : TaskView) → i < n → slice_get tasks i ≡ Some t → (t.state.number ≡ i) ×
      (slice_get rests i ≡ Some t.moves)

-- the same of all these tasks
abbrev pub AreRests : List TaskView → List ℕ → Type 0
AreRests tasks rests = AreRestsBelow tasks (length tasks) rests

-- the pass has met the passes of these states' tasks, each of which is one of `all`
pub record AreMet (r : RegistryView) (code : Tree) (most : ℕ) (all : List TaskView) (met : PassView) (configs : List Fiber) :
    Type 0 where
  pub home : IsOf r met
  pub pass : IsPass met
  pub at : (i : ℕ) (s : Fiber) → slice_get configs i ≡ Some s → (j : ℕ) × (t : TaskView) × (slice_get all j ≡ Some t) ×
      (t.state ≡ s) × IsMet code most met t.moves s
