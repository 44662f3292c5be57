-- The answers to a text under a schedule, as a picture.
use Rattle.std.specs.Prelude.{◌≡◌, ℕ, List, Ok, Err}
use Rattle.cell_registry.specs.declared.limits.Limits.{Limits}
use Rattle.cell_registry.specs.declared.limits.RunError.{RunError}
use Rattle.effect_term.specs.declared.term.Term.{Term}
use Rattle.text_io.specs.declared.status.Status.{Status}
use Rattle.text_io.specs.declared.status.Status.TheVariants as ends
use Rattle.scheduled_core.specs.declared.report.Report.{Report}
use Rattle.outcome_trace.specs.Answers.{IsProgramAnswer, IsRefusalAnswer}
use Rattle.outcome_trace.specs.Lines.{run_line}
use Rattle.outcome_trace.specs.ReplayAnswers.{replayed, report_status}

-- the answer to a program under a schedule and limits, with its status: a picture if the core has a report, or the line
-- of the core's fault
pub data IsPicturedAnswer (t : Term) (schedule : List ℕ) (limits : Limits) : List ℕ → Status → Type 0 where
  pictures : (r : Report) (picture : List ℕ) → replayed t limits schedule ≡ Ok r →
      IsPicturedAnswer t schedule limits picture (report_status r.fibers)
  faults : (e : RunError) → replayed t limits schedule ≡ Err e →
      IsPicturedAnswer t schedule limits (run_line e) ends.Fault

-- the answer to a text: a refusal, or the answer to its program
abbrev pub IsPictureAnswer : List ℕ → Limits → List ℕ → List ℕ → Status → Type 0
IsPictureAnswer schedule limits = IsProgramAnswer IsRefusalAnswer (λ t. IsPicturedAnswer t schedule limits)
