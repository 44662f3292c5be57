-- The answers to a text under a schedule.
use Rattle.std.specs.Prelude.{◌≡◌, ℕ, List, [], ◌∷◌, Ok, Err, Option, Some, None, Result}
use Rattle.cell_registry.specs.declared.limits.Limits.{Limits}
use Rattle.cell_registry.specs.declared.limits.RunError.{RunError}
use Rattle.derived_ops.specs.Expansion.{code_of}
use Rattle.derived_ops.specs.Reading.{source_of}
use Rattle.effect_term.specs.declared.reply.Outcome.{Outcome}
use Rattle.effect_term.specs.declared.reply.Outcome.TheVariants.{Succeeded, Errored, Canceled}
use Rattle.effect_term.specs.declared.term.Term.{Term}
use Rattle.scheduled_core.specs.declared.report.FiberReport.{FiberReport}
use Rattle.scheduled_core.specs.declared.report.Report.{Report}
use Rattle.text_io.specs.declared.status.Status.{Status}
use Rattle.text_io.specs.declared.status.Status.TheVariants as ends
use Rattle.outcome_trace.specs.Answers.{IsProgramAnswer, IsRefusalAnswer}
use Rattle.scheduled_core.specs.Core.{core, reported}
use Rattle.outcome_trace.specs.Lines.{run_line}
use Rattle.outcome_trace.specs.ReportText.{text_of_fibers}

-- the report or the fault of the core of a program under a schedule
abbrev pub replayed : Term → Limits → List ℕ → Result Report RunError
replayed t limits schedule = reported (core (code_of (source_of t)) limits schedule)

-- the exit status after a report, by the end of fiber 0
abbrev pub outcome_status : Option Outcome → Status
outcome_status (Some (Succeeded v)) = ends.Succeeded
outcome_status (Some (Errored c)) = ends.Errored
outcome_status (Some Canceled) = ends.Canceled
outcome_status None = ends.Unended

abbrev pub report_status : List FiberReport → Status
report_status [] = ends.Unended
report_status (f ∷ fibers) = outcome_status f.outcome

-- the answer to a program under a schedule and limits, with its status: the report or the fault of the core
pub data IsRunAnswer (t : Term) (schedule : List ℕ) (limits : Limits) : List ℕ → Status → Type 0 where
  reports : (r : Report) → replayed t limits schedule ≡ Ok r → IsRunAnswer t schedule limits (text_of_fibers r.fibers)
      (report_status r.fibers)
  faults : (e : RunError) → replayed t limits schedule ≡ Err e → IsRunAnswer t schedule limits (run_line e) ends.Fault

-- the answer of `replay` under a schedule and limits, with its status: a refusal, or the answer to the program that the
-- text spells
abbrev pub IsReplayAnswer : List ℕ → Limits → List ℕ → List ℕ → Status → Type 0
IsReplayAnswer schedule limits = IsProgramAnswer IsRefusalAnswer (λ t. IsRunAnswer t schedule limits)
