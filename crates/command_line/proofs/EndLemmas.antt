-- No answer to a text has the status of wrong usage.
use Rattle.std.proofs.Common.{◌≡◌, ◌≢◌, ◌∙◌, if◌then◌else◌, Bool, true, false, ℕ, List, [], ◌∷◌, Option, Some, None, Result, Ok, Err, sym}
use Rattle.cell_registry.specs.declared.limits.Limits.{Limits}
use Rattle.effect_term.specs.declared.reply.Outcome.{Outcome}
use Rattle.effect_term.specs.declared.reply.Outcome.TheVariants.{Succeeded, Errored, Canceled}
use Rattle.effect_term.specs.declared.term.Term.{Term}
use Rattle.text_io.specs.declared.fault.TextFault.{TextFault}
use Rattle.text_io.specs.declared.status.Status.{Status}
use Rattle.text_io.specs.declared.status.Status.TheVariants as ends
use Rattle.text_io.specs.Devices.{Devices, Reader, Writer}
use Rattle.text_io.specs.Exchange.{IsAnswered}
use Rattle.text_io.specs.Telling.{Answered, status_of}
use Rattle.scheduled_core.specs.declared.report.FiberReport.{FiberReport}
use Rattle.outcome_trace.specs.Answers.{IsCheckAnswer, IsProgramAnswer, IsRefusalAnswer, IsShowAnswer, no_program, no_term, refuses, runs}
use Rattle.outcome_trace.specs.ReplayAnswers.{IsReplayAnswer, IsRunAnswer, outcome_status, report_status, faults, reports}
use Rattle.reasons.specs.Explained.{Explained}
use Rattle.json_answers.specs.Answers.{IsJsonCheck, IsJsonRefusal, IsJsonReplay, IsJsonRun, reports as reports_json}
use Rattle.json_answers.specs.Answers.{faults as faults_json, no_program as no_program_json, no_term as no_term_json}
use Rattle.timelines.specs.PictureAnswers.{IsPictureAnswer, IsPicturedAnswer, faults as faults_drawn, pictures}
use Rattle.timelines.specs.TimelineAnswers.{IsTimelineAnswer}
use Rattle.steal_pool.specs.declared.options.Options.{Options}
use Rattle.command_words.specs.declared.replay.AnswerForm.{AnswerForm}
use Rattle.command_words.specs.declared.replay.AnswerForm.TheVariants.{Report, Timeline, Picture, Json}
use Rattle.command_words.specs.declared.running.RunForm.{RunForm}
use Rattle.command_words.specs.declared.running.RunForm.TheVariants as ran
use Rattle.command_line.specs.Checks.{checks_as}
use Rattle.command_line.specs.Orders.{ObeysOrder}
use Rattle.command_line.specs.Recording.{IsRecordedWith, IsTimedAnswer, alone, timed, reports as reports_recorded, faults as faults_recorded}
use Rattle.command_line.specs.Replays.{answers_as}
use Rattle.command_line.specs.RunReasons.{ExplainsRun}
use Rattle.command_line.specs.Runs.{comes_as, ran_as, refused_as}
use Rattle.command_line.specs.Workers.{IsJsonWorkersAnswer, IsWorkersAnswer}
use Rattle.command_line.specs.Workers.{value_of_fault, values, reports as reports_worked, faults as faults_worked}

outcome_ends : (o : Option Outcome) → outcome_status o ≢ ends.Usage
outcome_ends (Some (Succeeded v)) = λ u. cc
outcome_ends (Some (Errored c)) = λ u. cc
outcome_ends (Some Canceled) = λ u. cc
outcome_ends None = λ u. cc

pub report_ends : (fibers : List FiberReport) → report_status fibers ≢ ends.Usage
report_ends [] = λ u. cc
report_ends (f ∷ fibers) = outcome_ends f.outcome

pub refusal_ends : {text answer : List ℕ} {status : Status} → IsRefusalAnswer text answer status → status ≢ ends.Usage
refusal_ends (no_term text e reads) = λ u. cc
refusal_ends (no_program text t e reads past) = λ u. cc

success_ends : {status : Status} → status ≡ ends.Succeeded → status ≢ ends.Usage
success_ends is = λ u. let bad : ends.Succeeded ≡ ends.Usage = sym is ∙ u in cc

-- if neither a refusal nor an answer to a program has the status of wrong usage, no answer to a text has it
pub program_ends : {Refuses : List ℕ → List ℕ → Status → Type 0} {Comes : Term → List ℕ → Status → Type 0} {text answer : List ℕ} {status : Status} →
    ((text answer : List ℕ) (status : Status) → Refuses text answer status → status ≢ ends.Usage) →
    ((t : Term) (answer : List ℕ) (status : Status) → Comes t answer status → status ≢ ends.Usage) →
    IsProgramAnswer Refuses Comes text answer status → status ≢ ends.Usage
program_ends refused came (refuses text answer status h) = refused text answer status h
program_ends refused came (runs text answer status t reads program h) = came t answer status h

pub run_ends : {t : Term} {schedule : List ℕ} {limits : Limits} {answer : List ℕ} {status : Status} → IsRunAnswer t schedule limits answer status →
    status ≢ ends.Usage
run_ends (reports r core) = report_ends r.fibers
run_ends (faults e core) = λ u. cc

pub replay_ends : {schedule : List ℕ} {limits : Limits} {text answer : List ℕ} {status : Status} →
    IsReplayAnswer schedule limits text answer status → status ≢ ends.Usage
replay_ends = program_ends (λ text answer status h. refusal_ends h) (λ t answer status h. run_ends h)

check_ends : {text answer : List ℕ} {status : Status} → IsCheckAnswer text answer status → status ≢ ends.Usage
check_ends = program_ends (λ text answer status h. refusal_ends h) (λ t answer status h. success_ends h.1)

pub show_ends : {text answer : List ℕ} {status : Status} → IsShowAnswer text answer status → status ≢ ends.Usage
show_ends = program_ends (λ text answer status h. refusal_ends h) (λ t answer status h. success_ends h.1)

pub chosen_ends : (failed complete : Bool) → (if failed then ends.Errored else (if complete then ends.Succeeded else ends.Unended)) ≢ ends.Usage
chosen_ends true complete = λ u. cc
chosen_ends false true = λ u. cc
chosen_ends false false = λ u. cc

timeline_ends : {schedule : List ℕ} {limits : Limits} {text answer : List ℕ} {status : Status} →
    IsTimelineAnswer schedule limits text answer status → status ≢ ends.Usage
timeline_ends = program_ends (λ text answer status h. refusal_ends h) (λ t answer status h. run_ends h.runs)

pictured_ends : {t : Term} {schedule : List ℕ} {limits : Limits} {answer : List ℕ} {status : Status} →
    IsPicturedAnswer t schedule limits answer status → status ≢ ends.Usage
pictured_ends (pictures r picture core) = report_ends r.fibers
pictured_ends (faults_drawn e core) = λ u. cc

picture_ends : {schedule : List ℕ} {limits : Limits} {text answer : List ℕ} {status : Status} → IsPictureAnswer schedule limits text answer status →
    status ≢ ends.Usage
picture_ends = program_ends (λ text answer status h. refusal_ends h) (λ t answer status h. pictured_ends h)

pub json_refusal_ends : {text answer : List ℕ} {status : Status} → IsJsonRefusal text answer status → status ≢ ends.Usage
json_refusal_ends (no_term_json text e reads) = λ u. cc
json_refusal_ends (no_program_json text t e reads past) = λ u. cc

json_check_ends : {text answer : List ℕ} {status : Status} → IsJsonCheck text answer status → status ≢ ends.Usage
json_check_ends = program_ends (λ text answer status h. json_refusal_ends h) (λ t answer status h. success_ends h.1)

json_run_ends : {t : Term} {schedule : List ℕ} {limits : Limits} {answer : List ℕ} {status : Status} → IsJsonRun t schedule limits answer status →
    status ≢ ends.Usage
json_run_ends (reports_json r core) = report_ends r.fibers
json_run_ends (faults_json e core) = λ u. cc

json_ends : {schedule : List ℕ} {limits : Limits} {text answer : List ℕ} {status : Status} → IsJsonReplay schedule limits text answer status →
    status ≢ ends.Usage
json_ends = program_ends (λ text answer status h. json_refusal_ends h) (λ t answer status h. json_run_ends h)

pub form_ends : (form : AnswerForm) (schedule : List ℕ) (limits : Limits) (text answer : List ℕ) (status : Status) →
    answers_as form schedule limits text answer status → status ≢ ends.Usage
form_ends Report schedule limits text answer status h = replay_ends h
form_ends Timeline schedule limits text answer status h = timeline_ends h
form_ends Picture schedule limits text answer status h = picture_ends h
form_ends Json schedule limits text answer status h = json_ends h

-- if no answer has the status of wrong usage, no result has it
pub answered_ends : (Answers : List ℕ → List ℕ → Status → Type 0) (before after : Reader) (old new : Writer) (result : Result Status TextFault) →
    ((text answer : List ℕ) (status : Status) → Answers text answer status → status ≢ ends.Usage) → IsAnswered Answers before after old new result →
    status_of result ≢ ends.Usage
answered_ends Answers before after old new (Ok s) never h =
    λ u. never h.exchange.text h.exchange.answer h.exchange.status h.exchange.answers (sym h.exchange.told ∙ u)
answered_ends Answers before after old new (Err f) never h = λ u. cc

pub explained_ends : {Answers : List ℕ → List ℕ → Status → Type 0} {Tells : List ℕ → List ℕ → Type 0} {before after : Devices} {status : Status} →
    ((text answer : List ℕ) (status : Status) → Answers text answer status → status ≢ ends.Usage) → Explained Answers Tells before after status →
    status ≢ ends.Usage
explained_ends never h = λ u. answered_ends _ _ _ _ _ h.result never h.answered (sym h.status_is ∙ u)

pub told_ends : {Answers : List ℕ → List ℕ → Status → Type 0} {before after : Devices} {status : Status} →
    ((text answer : List ℕ) (status : Status) → Answers text answer status → status ≢ ends.Usage) → Answered Answers before after status → status ≢ ends.Usage
told_ends never h = λ u. answered_ends _ _ _ _ _ h.result never h.answered (sym h.status_is ∙ u)

-- the same with or without reasons
pub order_ends : (Answers : List ℕ → List ℕ → Status → Type 0) (Tells : List ℕ → List ℕ → Type 0) (explain : Bool) (before after : Devices)
    (status : Status) → ((text answer : List ℕ) (status : Status) → Answers text answer status → status ≢ ends.Usage) →
    ObeysOrder Answers Tells explain before after status → status ≢ ends.Usage
order_ends Answers Tells true before after status never h = explained_ends never h
order_ends Answers Tells false before after status never h = told_ends never h

pub check_as_ends : (json : Bool) (text answer : List ℕ) (status : Status) → checks_as json text answer status → status ≢ ends.Usage
check_as_ends true text answer status h = json_check_ends h
check_as_ends false text answer status h = check_ends h

-- ---- of runs on workers
refused_ends : (form : RunForm) (text answer : List ℕ) (status : Status) → refused_as form text answer status → status ≢ ends.Usage
refused_ends ran.Report text answer status h = refusal_ends h
refused_ends ran.Record text answer status h = refusal_ends h
refused_ends ran.Timeline text answer status h = refusal_ends h
refused_ends ran.Json text answer status h = json_refusal_ends h

workers_end : {t : Term} {options : Options} {answer : List ℕ} {status : Status} → IsWorkersAnswer t options answer status → status ≢ ends.Usage
workers_end (reports_worked r some lawful) = report_ends r.fibers
workers_end (faults_worked e within of_run) = λ u. cc

recorded_ends : {t : Term} {options : Options} {b : Bool} {answer : List ℕ} {status : Status} → IsRecordedWith t options b answer status →
    status ≢ ends.Usage
recorded_ends (reports_recorded r b line some lawful told) = report_ends r.fibers
recorded_ends (faults_recorded e b line within of_run told) = λ u. cc

timed_ends : {t : Term} {options : Options} {answer : List ℕ} {status : Status} → IsTimedAnswer t options answer status → status ≢ ends.Usage
timed_ends (alone answer status h) = recorded_ends h
timed_ends (timed answer timeline status h) = recorded_ends h

values_end : {t : Term} {options : Options} {answer : List ℕ} {status : Status} → IsJsonWorkersAnswer t options answer status → status ≢ ends.Usage
values_end (values r some lawful) = report_ends r.fibers
values_end (value_of_fault e within of_run) = λ u. cc

comes_ends : (form : RunForm) (options : Options) (t : Term) (answer : List ℕ) (status : Status) → comes_as form options t answer status → status ≢ ends.Usage
comes_ends ran.Report options t answer status h = workers_end h
comes_ends ran.Record options t answer status h = recorded_ends h.1
comes_ends ran.Timeline options t answer status h = timed_ends h
comes_ends ran.Json options t answer status h = values_end h

pub ran_ends : (form : RunForm) (options : Options) (text answer : List ℕ) (status : Status) → ran_as form options text answer status → status ≢ ends.Usage
ran_ends form options text answer status =
    program_ends (refused_ends form) (comes_ends form options)

pub explained_run_ends : {options : Options} {before after : Devices} {status : Status} → ExplainsRun options before after status → status ≢ ends.Usage
explained_run_ends {options} h = λ u. answered_ends _ _ _ _ _ h.result (ran_ends ran.Report options) h.answered (sym h.status_is ∙ u)
