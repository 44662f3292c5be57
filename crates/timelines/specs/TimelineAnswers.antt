-- The answers to a text under a schedule, with a timeline.
use Rattle.std.specs.Prelude.{◌≡◌, ℕ, List, ◌∷◌, ◌++◌, Ok, Err, Result}
use Rattle.cell_registry.specs.declared.limits.Limits.{Limits}
use Rattle.cell_registry.specs.declared.limits.RunError.{RunError}
use Rattle.effect_term.specs.declared.term.Term.{Term}
use Rattle.text_io.specs.declared.status.Status.{Status}
use Rattle.text_io.specs.declared.status.Status.TheVariants as ends
use Rattle.scheduled_core.specs.declared.report.Report.{Report}
use Rattle.outcome_trace.specs.Answers.{IsProgramAnswer, IsRefusalAnswer}
use Rattle.outcome_trace.specs.Lines.{run_line}
use Rattle.outcome_trace.specs.ReplayAnswers.{IsRunAnswer, report_status}
use Rattle.outcome_trace.specs.ReportText.{text_of_fibers}

-- the text of the end of a run, and its status: those of a report, or of a fault
abbrev pub end_text : Result Report RunError → List ℕ
end_text (Ok r) = text_of_fibers r.fibers
end_text (Err e) = run_line e

abbrev pub end_status : Result Report RunError → Status
end_status (Ok r) = report_status r.fibers
end_status (Err e) = ends.Fault

-- the answer to a program under a schedule and limits, with its status: the report or the fault of the core, then a
-- blank line and a timeline
pub record IsToldAnswer (t : Term) (schedule : List ℕ) (limits : Limits) (answer : List ℕ) (status : Status) : Type 0
  where
    pub front : List ℕ
    pub timeline : List ℕ
    pub text_is : answer ≡ front ++ 10 ∷ timeline
    pub runs : IsRunAnswer t schedule limits front status

-- the answer to a text: a refusal, or the answer to its program, with a timeline
abbrev pub IsTimelineAnswer : List ℕ → Limits → List ℕ → List ℕ → Status → Type 0
IsTimelineAnswer schedule limits = IsProgramAnswer IsRefusalAnswer (λ t. IsToldAnswer t schedule limits)
