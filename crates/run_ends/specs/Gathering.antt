-- What a report that is gathered from tasks promises, and when there is none.
use Rattle.std.specs.Prelude.{◌≡◌, ◌≢◌, ◌⊎◌, ℕ, ◌<◌, List, Some}
use Rattle.std.specs.List.{slice_get}
use mathlib.Core.List.{IsPrefix}
use Rattle.fiber_frames.specs.Marks.{AreLawful}
use Rattle.cell_registry.specs.declared.call.Entry.{Entry}
use Rattle.cell_registry.specs.declared.limits.Limits.{Limits}
use Rattle.cell_registry.specs.Histories.{IsLegal, calls_by, left}
use Rattle.scheduled_core.specs.declared.report.FiberReport.{FiberReport}
use Rattle.scheduled_core.specs.declared.report.Report.{Report}
use Rattle.scheduled_core.specs.Core.{fiber_report}
use Rattle.fiber_poll.specs.Tasks.{TaskView}

-- the marks of a fiber in a report are lawful, with its outcome
abbrev pub IsLawful : FiberReport → Type 0
IsLawful line = AreLawful line.marks line.outcome

-- the report has the line of each of these tasks, at the number of its fiber
abbrev pub TellsEach : List TaskView → Report → Type 0
TellsEach tasks report =
    (i : ℕ) (t : TaskView) → slice_get tasks i ≡ Some t → slice_get report.fibers t.state.number ≡
    Some (fiber_report t.state)

-- and each line is that of one of these tasks
abbrev pub TellsNoOther : List TaskView → Report → Type 0
TellsNoOther tasks report =
    (f : ℕ) (line : FiberReport) → slice_get report.fibers f ≡ Some line → (i : ℕ) × (t : TaskView) ×
    (slice_get tasks i ≡ Some t) × (t.state.number ≡ f)

-- the fiber f was started in some legal history that begins with all that these tasks had seen, and has no further call
-- by their fibers
pub record IsBorn (k : Limits) (tasks : List TaskView) (f : ℕ) : Type 0 where
  pub history : List Entry
  pub legal : IsLegal k history
  pub seen : (i : ℕ) (t : TaskView) → slice_get tasks i ≡ Some t → IsPrefix t.pass.seen history
  pub own : (i : ℕ) (t : TaskView) → slice_get tasks i ≡ Some t → calls_by t.state.number history ≡
      calls_by t.state.number t.pass.seen
  pub below : f < (left k history).next_fiber

-- the fiber f, which is fiber 0 or was started, has no task among these, and each fiber below it has one
pub record IsMissing (k : Limits) (tasks : List TaskView) (f : ℕ) : Type 0 where
  pub none : (i : ℕ) (t : TaskView) → slice_get tasks i ≡ Some t → t.state.number ≢ f
  pub before : (g : ℕ) → g < f → (i : ℕ) × (t : TaskView) × (slice_get tasks i ≡ Some t) × (t.state.number ≡ g)
  pub born : (f ≡ 0) ⊎ IsBorn k tasks f
