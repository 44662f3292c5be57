-- Answers to texts whose programs workers run while they record their schedule.
use Rattle.std.proofs.Common.{◌≡◌, ◌++◌, ◌∷◌, ℕ, All, true, false, ◌&&◌, List, Option, Some, None, Result, Ok, Err, IfOk, refl, subst, sym}
use Rattle.std.specs.Prelude.{IfErr, IfNone, IfSome, String, string_bytes}
use Rattle.std.specs.declared.alloc.Global.{Global}
use Rattle.std.specs.declared.vec.Vec.{Vec}
use Rattle.cell_registry.specs.declared.limits.Limits.{Limits}
use Rattle.cell_registry.specs.declared.limits.RunError.{RunError}
use Rattle.cell_registry.specs.declared.limits.RunError.TheVariants as fault
use Rattle.derived_ops.specs.Expansion.{code_of}
use Rattle.derived_ops.specs.Reading.{source_of}
use Rattle.derived_ops.specs.Tree.{Tree}
use Rattle.effect_term.specs.declared.term.Term.{Term}
use Rattle.scheduled_core.specs.declared.report.Report.{Report}
use Rattle.outcome_trace.specs.declared.text_order.Answer.{Answer}
use Rattle.text_io.specs.Schedule.{SpellsEntries}
use Rattle.scheduled_core.specs.Core.{core, reported}
use Rattle.outcome_trace.specs.ReplayAnswers.{IsRunAnswer, faults as faults_replayed, reports as reports_replayed}
use Rattle.scheduled_core.specs.Spending.{IsSpentReport}
use Rattle.run_ends.specs.declared.finishing.RunEnd.{RunEnd}
use Rattle.steal_pool.specs.declared.options.Options.{Options}
use Rattle.run_recording.specs.declared.schedules.NoSchedule.{NoSchedule}
use Rattle.run_ends.specs.Gathering.{IsLawful}
use Rattle.run_ends.specs.Ends.{IsRunFault, came_to}
use Rattle.ready_queues.specs.Faults.{IsFaultWithin}
use Rattle.steal_pool.specs.Runs.{limits_of}
use Rattle.command_line.specs.Recording.{AreEntriesOf, IsBehindFault, IsRecord, IsRecordedAnswer, IsRecordedWith, IsScheduleLine, IsTimedAnswer}
use Rattle.command_line.specs.Recording.{ended_status, ended_text, has_line, is_found, line_behind, record_text, told_line, faults}
use Rattle.command_line.specs.Recording.{SpellsFound, no_schedule, reports, schedules, timed}
use Rattle.command_line.specs.Workers.{IsWorkersAnswer, faults as faults_worked, reports as reports_worked}

-- the text spells a schedule that leads to the end
pub spelled_record : (code : Tree) (k : Limits) (found : Result (Vec ℕ Global) NoSchedule) (s : Result (String Global) NoSchedule)
    (end : Result Report RunError) → IfOk found (λ entries. reported (core code k entries.items) ≡ end) →
    IfOk s (λ text. SpellsFound found (string_bytes text)) → IfOk s (λ text. IsRecord code k (string_bytes text) end)
spelled_record code k (Ok entries) (Ok text) end comes spelled = record { entries = entries.items; spelled = spelled; comes = comes }
spelled_record code k (Err why) (Ok text) end comes spelled = absurd spelled
spelled_record code k (Ok entries) (Err why) end comes spelled = tt
spelled_record code k (Err none) (Err why) end comes spelled = tt

-- the line is that of a schedule which leads to the end, or of none
pub line_told : (t : Term) (options : Options) (end : Result Report RunError) (s : Result (String Global) NoSchedule) →
    IfOk s (λ text. IsRecord (code_of (source_of t)) (limits_of options) (string_bytes text) end) →
    IsScheduleLine t options end (is_found s) (told_line s)
line_told t options end (Ok text) h = schedules (string_bytes text) h
line_told t options end (Err why) h = no_schedule why

-- the same after the line of a fault
pub line_behind_told : (t : Term) (options : Options) (e : RunError) (s : Result (String Global) NoSchedule) →
    IfOk s (λ text. IsRecord (code_of (source_of t)) (limits_of options) (string_bytes text) (Err e)) →
    IsBehindFault t options e (has_line (Err e) && is_found s) (line_behind e s)
line_behind_told t options (fault.Full band n) s h = line_told t options (Err (fault.Full band n)) s h
line_behind_told t options (fault.Spent f) s h = line_told t options (Err (fault.Spent f)) s h
line_behind_told t options fault.NoMemory s h = (refl, refl)
line_behind_told t options (fault.Lost f) s h = (refl, refl)
line_behind_told t options fault.NoWorker s h = (refl, refl)

-- the answer to a recorded run, with the line of its schedule
pub recorded_answer : (t : Term) (options : Options) (end : Result RunEnd RunError) (s : Result (String Global) NoSchedule) (a : Answer) →
    IfOk end (λ it. IsSpentReport (code_of (source_of t)) (limits_of options) options.moves it.report) → IfOk end (λ it. All IsLawful it.report.fibers) →
    IfErr end (IsFaultWithin (limits_of options)) → IfErr end (IsRunFault (code_of (source_of t)) (limits_of options)) →
    IfOk s (λ text. IsRecord (code_of (source_of t)) (limits_of options) (string_bytes text) (came_to end)) → a.text.items ≡ record_text end s →
    a.status ≡ ended_status end → IsRecordedWith t options (has_line end && is_found s) a.text.items a.status
recorded_answer t options (Ok it) s a some lawful within of_run recorded line status =
    rw (line, status) (reports it.report (is_found s) (told_line s) some lawful (line_told t options (Ok it.report) s recorded))
recorded_answer t options (Err f) s a some lawful within of_run recorded line status =
    rw (line, status) (faults f (has_line (Err f) && is_found s) (line_behind f s) within of_run (line_behind_told t options f s recorded))

pub recorded_answers : {E : Type 0} (t : Term) (options : Options) (end : Result RunEnd RunError) (s : Result (String Global) NoSchedule)
    (a : Result Answer E) → IfOk end (λ it. IsSpentReport (code_of (source_of t)) (limits_of options) options.moves it.report) →
    IfOk end (λ it. All IsLawful it.report.fibers) → IfErr end (IsFaultWithin (limits_of options)) →
    IfErr end (IsRunFault (code_of (source_of t)) (limits_of options)) →
    IfOk s (λ text. IsRecord (code_of (source_of t)) (limits_of options) (string_bytes text) (came_to end)) →
    IfOk a (λ a. a.text.items ≡ record_text end s) → IfOk a (λ a. a.status ≡ ended_status end) → IfOk a (λ a. IsRecordedAnswer t options a.text.items a.status)
recorded_answers t options end s (Ok a) some lawful within of_run recorded line status =
    (has_line end && is_found s, recorded_answer t options end s a some lawful within of_run recorded line status)
recorded_answers t options end s (Err x) some lawful within of_run recorded line status = tt

-- the entries that were read are those of the found schedule
pub entries_found : (s : Result (String Global) NoSchedule) (text : String Global) (bytes entries : List ℕ) → s ≡ Ok text →
    bytes ≡ string_bytes text → ((others : List ℕ) → SpellsEntries bytes others → others ≡ entries) → AreEntriesOf s entries
entries_found s text bytes entries is same one =
    subst (λ (r : Result (String Global) NoSchedule). AreEntriesOf r entries) (sym is)
    (λ others spells. one others (subst (λ (bs : List ℕ). SpellsEntries bs others) (sym same) spells))

-- the answer has a schedule exactly if its end has a line and a schedule was found
pub tells_none : (end : Result RunEnd RunError) (s : Result (String Global) NoSchedule) → has_line end ≡ false → has_line end && is_found s ≡ false
tells_none end s h = rw h refl

pub finds_none : (end : Result RunEnd RunError) (s : Result (String Global) NoSchedule) → has_line end ≡ true → is_found s ≡ false →
    has_line end && is_found s ≡ false
finds_none end s h none = rw (h, none) refl

tells_one : {V : Type 0} (items : V → List ℕ) (end : Result RunEnd RunError) (s : Result (String Global) NoSchedule) (v : V) →
    has_line end ≡ true → AreEntriesOf s (items v) → has_line end && is_found s ≡ true
tells_one items end (Ok text) v h one = rw h refl
tells_one items end (Err why) v h one = absurd one

pub tells_found : {V : Type 0} (items : V → List ℕ) (end : Result RunEnd RunError) (s : Result (String Global) NoSchedule) (found : Option V) (v : V) →
    has_line end ≡ true → IfSome found (λ v. AreEntriesOf s (items v)) → found ≡ Some v → has_line end && is_found s ≡ true
tells_found {V} items end s found v h some is =
    tells_one items end s v h (subst (λ (o : Option V). IfSome o (λ v. AreEntriesOf s (items v))) is some)

-- no entries are found only if no schedule was found
pub none_found : {V : Type 0} (s : Result (String Global) NoSchedule) (found : Option V) → IfNone found (is_found s ≡ false) → found ≡ None →
    is_found s ≡ false
none_found s None none is = none
none_found s (Some v) none is = absurd (cc)

-- ---- with a timeline
pub timed_answers : {E : Type 0} (t : Term) (options : Options) (front : Answer) (rows : List ℕ) (a : Result Answer E) →
    IsRecordedWith t options true front.text.items front.status → IfOk a (λ a. a.text.items ≡ front.text.items ++ 10 ∷ rows) →
    IfOk a (λ a. a.status ≡ front.status) → IfOk a (λ a. IsTimedAnswer t options a.text.items a.status)
timed_answers t options front rows (Ok a) h line status = rw (line, status) (timed front.text.items rows front.status h)
timed_answers t options front rows (Err x) h line status = tt

-- ---- without the line of the schedule
pub ended_answers : (t : Term) (options : Options) (end : Result RunEnd RunError) (a : Answer) →
    IfOk end (λ it. IsSpentReport (code_of (source_of t)) (limits_of options) options.moves it.report) → IfOk end (λ it. All IsLawful it.report.fibers) →
    IfErr end (IsFaultWithin (limits_of options)) → IfErr end (IsRunFault (code_of (source_of t)) (limits_of options)) →
    a.text.items ≡ ended_text end → a.status ≡ ended_status end →
    IsWorkersAnswer t options a.text.items a.status
ended_answers t options (Ok it) a some lawful within of_run line status = rw (line, status) (reports_worked it.report some lawful)
ended_answers t options (Err f) a some lawful within of_run line status = rw (line, status) (faults_worked f within of_run)

-- a replay under the entries of the schedule gives the same answer
replay_comes : (t : Term) (options : Options) (end : Result RunEnd RunError) (entries : List ℕ) →
    reported (core (code_of (source_of t)) (limits_of options) entries) ≡ came_to end →
    IsRunAnswer t entries (limits_of options) (ended_text end) (ended_status end)
replay_comes t options (Ok it) entries e = reports_replayed it.report e
replay_comes t options (Err f) entries e = faults_replayed f e

pub replayed_answers :
    {V : Type 0} (items : V → List ℕ) (t : Term) (options : Options) (end : Result RunEnd RunError) (s : Result (String Global) NoSchedule)
    (found : Option V) (a : Answer) → IfOk s (λ text. IsRecord (code_of (source_of t)) (limits_of options) (string_bytes text) (came_to end)) →
    a.text.items ≡ ended_text end → a.status ≡ ended_status end → IfSome found (λ v. AreEntriesOf s (items v)) →
    IfSome found (λ v. IsRunAnswer t (items v) (limits_of options) a.text.items a.status)
replayed_answers items t options end (Ok text) (Some v) a recorded line status one =
    let comes : reported (core (code_of (source_of t)) (limits_of options) (items v)) ≡ came_to end =
    subst (λ (es : List ℕ). reported (core (code_of (source_of t)) (limits_of options) es) ≡ came_to end) (one recorded.entries recorded.spelled)
    recorded.comes in
    rw (line, status) (replay_comes t options end (items v) comes)
replayed_answers items t options end (Err why) (Some v) a recorded line status one = absurd one
replayed_answers items t options end (Ok text) None a recorded line status one = tt
replayed_answers items t options end (Err why) None a recorded line status one = tt
