-- The end of a run.
use Rattle.std.specs.Prelude.{◌≡◌, ℕ, List, None, Some, Result, Ok, Err}
use Rattle.std.specs.List.{slice_get}
use Rattle.derived_ops.specs.Tree.{Tree}
use Rattle.cell_registry.specs.declared.limits.Limits.{Limits}
use Rattle.cell_registry.specs.declared.limits.RunError.{RunError}
use Rattle.cell_registry.specs.declared.limits.RunError.TheVariants as fault
use Rattle.scheduled_core.specs.declared.report.FiberReport.{FiberReport}
use Rattle.scheduled_core.specs.declared.report.Report.{Report}
use Rattle.scheduled_core.specs.Core.{core}
use Rattle.scheduled_core.specs.Finals.{IsFinalReport}
use Rattle.scheduled_core.specs.Spending.{IsSpentReport}
use Rattle.scheduled_core.specs.Stands.{IsOfSomeSchedule}
use Rattle.run_ends.specs.declared.finishing.RunEnd.{RunEnd}

-- the fiber f is unended in the report
pub record TellsUnended (report : Report) (f : ℕ) : Type 0 where
  pub line : FiberReport
  pub here : slice_get report.fibers f ≡ Some line
  pub unended : line.outcome ≡ None

-- some fiber is unended in the report
abbrev pub HasUnended : Report → Type 0
HasUnended report = (f : ℕ) × TellsUnended report f

-- The end of a run whose fiber 0 has `most` moves: its report is that of a schedule of moves within these, in which
-- each unended fiber rests or has used up its own. A fiber that is reported to have stopped is unended. If none is, the
-- report is a final one
pub record IsEnd (code : Tree) (k : Limits) (most : ℕ) (it : RunEnd) : Type 0 where
  pub schedule : IsOfSomeSchedule code k it.report
  pub spent : IsSpentReport code k most it.report
  pub complete : it.stopped ≡ None → IsFinalReport code k it.report
  pub stopped : (f : ℕ) → it.stopped ≡ Some f → TellsUnended it.report f

-- a schedule leads the core of the code to this fault
abbrev pub IsFaultOfSomeSchedule : Tree → Limits → RunError → Type 0
IsFaultOfSomeSchedule code k e = (schedule : List ℕ) × (core code k schedule ≡ Err e)

-- Why a run ends without a report: a call was refused, as the core refuses it under some schedule; or memory ran out, a
-- fiber's task was missing, or no worker could be started
abbrev pub IsRunFault : Tree → Limits → RunError → Type 0
IsRunFault code k (fault.Full band n) = IsFaultOfSomeSchedule code k (fault.Full band n)
IsRunFault code k (fault.Spent f) = IsFaultOfSomeSchedule code k (fault.Spent f)
IsRunFault code k fault.NoMemory = Unit {0}
IsRunFault code k (fault.Lost f) = Unit {0}
IsRunFault code k fault.NoWorker = Unit {0}

-- no call was refused
abbrev pub IsNoRefusal : RunError → Type 0
IsNoRefusal (fault.Full band n) = ⊥
IsNoRefusal (fault.Spent f) = ⊥
IsNoRefusal fault.NoMemory = Unit {0}
IsNoRefusal (fault.Lost f) = Unit {0}
IsNoRefusal fault.NoWorker = Unit {0}

-- the report of a run, or its fault
abbrev pub came_to : Result RunEnd RunError → Result Report RunError
came_to (Ok it) = Ok it.report
came_to (Err e) = Err e
