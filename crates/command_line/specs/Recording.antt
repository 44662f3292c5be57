-- The answer to a text whose program workers run while they record their schedule.
use Rattle.std.specs.Prelude.{◌≡◌, ℕ, All, Bool, true, false, List, [], ◌∷◌, ◌++◌, Result, Ok, Err, String, codes}
use Rattle.std.specs.Prelude.{string_bytes}
use Rattle.std.specs.declared.alloc.Global.{Global}
use Rattle.std.specs.declared.vec.Vec.{Vec}
use Rattle.cell_registry.specs.declared.limits.Limits.{Limits}
use Rattle.cell_registry.specs.declared.limits.RunError.{RunError}
use Rattle.cell_registry.specs.declared.limits.RunError.TheVariants as fault
use Rattle.derived_ops.specs.Expansion.{code_of}
use Rattle.derived_ops.specs.Reading.{source_of}
use Rattle.derived_ops.specs.Tree.{Tree}
use Rattle.effect_term.specs.declared.term.Term.{Term}
use Rattle.scheduled_core.specs.declared.report.Report.{Report}
use Rattle.text_io.specs.declared.status.Status.{Status}
use Rattle.text_io.specs.declared.status.Status.TheVariants.{Fault}
use Rattle.text_io.specs.Schedule.{SpellsEntries}
use Rattle.outcome_trace.specs.Lines.{run_line}
use Rattle.outcome_trace.specs.ReplayAnswers.{report_status}
use Rattle.outcome_trace.specs.ReportText.{text_of_fibers}
use Rattle.scheduled_core.specs.Core.{core, reported}
use Rattle.scheduled_core.specs.Spending.{IsSpentReport}
use Rattle.run_ends.specs.declared.finishing.RunEnd.{RunEnd}
use Rattle.steal_pool.specs.declared.options.Options.{Options}
use Rattle.run_recording.specs.declared.schedules.NoSchedule.{NoSchedule}
use Rattle.run_recording.specs.declared.schedules.NoSchedule.TheVariants.{TooLong, NotFound, NoMemory}
use Rattle.run_ends.specs.Ends.{IsRunFault}
use Rattle.run_ends.specs.Gathering.{IsLawful}
use Rattle.ready_queues.specs.Faults.{IsFaultWithin}
use Rattle.steal_pool.specs.Runs.{limits_of}

-- the text spells a schedule under which the core gives exactly this report or fault
pub record IsRecord (code : Tree) (k : Limits) (text : List ℕ) (end : Result Report RunError) : Type 0 where
  pub entries : List ℕ
  pub spelled : SpellsEntries text entries
  pub comes : reported (core code k entries) ≡ end

-- a schedule was found, and the text spells its entries
abbrev pub SpellsFound : Result (Vec ℕ Global) NoSchedule → List ℕ → Type 0
SpellsFound (Ok entries) text = SpellsEntries text entries.items
SpellsFound (Err why) text = ⊥

-- the line with the text of a schedule
abbrev pub schedule_line : List ℕ → List ℕ
schedule_line text = codes "schedule " ++ (text ++ 10 ∷ [])

-- the line of why there is no schedule
abbrev pub no_schedule_line : NoSchedule → List ℕ
no_schedule_line TooLong = codes "no schedule: it has more than 1000000 entries" ++ 10 ∷ []
no_schedule_line NotFound = codes "no schedule: none was found" ++ 10 ∷ []
no_schedule_line NoMemory = codes "no schedule: memory ran out" ++ 10 ∷ []

-- the line of the schedule of a recorded run, or of why there is none
abbrev pub told_line : Result (String Global) NoSchedule → List ℕ
told_line (Ok text) = schedule_line (string_bytes text)
told_line (Err why) = no_schedule_line why

-- the line after that of a fault: `told_line` after `Full` and `Spent`, nothing after a fault to which no schedule
-- leads
abbrev pub line_behind : RunError → Result (String Global) NoSchedule → List ℕ
line_behind (fault.Full band n) schedule = told_line schedule
line_behind (fault.Spent f) schedule = told_line schedule
line_behind fault.NoMemory schedule = []
line_behind (fault.Lost f) schedule = []
line_behind fault.NoWorker schedule = []

-- The line of a schedule under which the core, within the limits of the run, gives exactly this end, or the line of why
-- there is none. The `Bool` is whether the line has a schedule.
pub data IsScheduleLine (t : Term) (options : Options) (end : Result Report RunError) : Bool → List ℕ → Type 0 where
  schedules : (text : List ℕ) → IsRecord (code_of (source_of t)) (limits_of options) text end →
      IsScheduleLine t options end true (schedule_line text)
  no_schedule : (why : NoSchedule) → IsScheduleLine t options end false (no_schedule_line why)

-- what follows the line of a fault: the line of a schedule after `Full` and `Spent`, nothing after another fault
abbrev pub IsBehindFault : Term → Options → RunError → Bool → List ℕ → Type 0
IsBehindFault t options (fault.Full band n) tells line = IsScheduleLine t options (Err (fault.Full band n)) tells line
IsBehindFault t options (fault.Spent f) tells line = IsScheduleLine t options (Err (fault.Spent f)) tells line
IsBehindFault t options fault.NoMemory tells line = (tells ≡ false) × (line ≡ [])
IsBehindFault t options (fault.Lost f) tells line = (tells ≡ false) × (line ≡ [])
IsBehindFault t options fault.NoWorker tells line = (tells ≡ false) × (line ≡ [])

-- The answer to a program on workers that record their schedule, with its status: the answer without the record, and
-- then the line of the schedule. The `Bool` is whether this line has a schedule.
pub data IsRecordedWith (t : Term) (options : Options) : Bool → List ℕ → Status → Type 0 where
  reports : (r : Report) (tells : Bool) (line : List ℕ) →
      IsSpentReport (code_of (source_of t)) (limits_of options) options.moves r → All IsLawful r.fibers →
      IsScheduleLine t options (Ok r) tells line →
      IsRecordedWith t options tells (text_of_fibers r.fibers ++ line) (report_status r.fibers)
  faults : (e : RunError) (tells : Bool) (line : List ℕ) → IsFaultWithin (limits_of options) e →
      IsRunFault (code_of (source_of t)) (limits_of options) e →
      IsBehindFault t options e tells line → IsRecordedWith t options tells (run_line e ++ line) Fault

-- the same, whether or not the line has a schedule
abbrev pub IsRecordedAnswer : Term → Options → List ℕ → Status → Type 0
IsRecordedAnswer t options answer status = (tells : Bool) × IsRecordedWith t options tells answer status

-- The same with a timeline: a blank line and a timeline follow exactly if the line has a schedule.
pub data IsTimedAnswer (t : Term) (options : Options) : List ℕ → Status → Type 0 where
  alone : (answer : List ℕ) (status : Status) → IsRecordedWith t options false answer status →
      IsTimedAnswer t options answer status
  timed : (answer timeline : List ℕ) (status : Status) → IsRecordedWith t options true answer status →
      IsTimedAnswer t options (answer ++ 10 ∷ timeline) status

-- the answer for this end has a line of a schedule
abbrev pub has_line : Result RunEnd RunError → Bool
has_line (Ok it) = true
has_line (Err (fault.Full band n)) = true
has_line (Err (fault.Spent f)) = true
has_line (Err fault.NoMemory) = false
has_line (Err (fault.Lost f)) = false
has_line (Err fault.NoWorker) = false

-- a schedule was found
abbrev pub is_found : Result (String Global) NoSchedule → Bool
is_found (Ok text) = true
is_found (Err why) = false

-- the text of the answer to a recorded run, and its status
abbrev pub record_text : Result RunEnd RunError → Result (String Global) NoSchedule → List ℕ
record_text (Ok it) schedule = text_of_fibers it.report.fibers ++ told_line schedule
record_text (Err e) schedule = run_line e ++ line_behind e schedule

abbrev pub ended_status : Result RunEnd RunError → Status
ended_status (Ok it) = report_status it.report.fibers
ended_status (Err e) = Fault

-- the same without the line of the schedule
abbrev pub ended_text : Result RunEnd RunError → List ℕ
ended_text (Ok it) = text_of_fibers it.report.fibers
ended_text (Err e) = run_line e

-- the text of the found schedule spells no other entries
abbrev pub AreEntriesOf : Result (String Global) NoSchedule → List ℕ → Type 0
AreEntriesOf (Ok text) entries = (others : List ℕ) → SpellsEntries (string_bytes text) others → others ≡ entries
AreEntriesOf (Err why) entries = ⊥
