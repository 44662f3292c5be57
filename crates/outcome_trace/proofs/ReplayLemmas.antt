-- What comes of programs under a schedule.
use Rattle.std.proofs.Common.{◌≡◌, ◌≢◌, ◌⊎◌, ℕ, List, Result, Ok, Err, IfOk, OnOk, inl, inr}
use Rattle.cell_registry.specs.declared.limits.{Limits.Limits, RunError.RunError}
use Rattle.effect_term.specs.declared.term.Term.{Term}
use Rattle.outcome_trace.specs.{declared.text_order.Answer.Answer, Lines.run_line, ReportText.text_of_fibers, ReplayAnswers.{replayed, report_status}}
use Rattle.outcome_trace.specs.ReplayAnswers.{IsRunAnswer, reports, faults}
use Rattle.scheduled_core.specs.declared.report.Report.{Report}
use Rattle.cell_registry.specs.declared.limits.RunError.TheVariants as run
use Rattle.text_io.specs.declared.status.Status.TheVariants as ends

-- a report is the core's, and so is a fault other than want of memory
pub report_is_core : (t : Term) (limits : Limits) (schedule : List ℕ) (result : Result Report RunError) (r : Report) → result ≡ Ok r →
    (result ≡ Err run.NoMemory) ⊎ (result ≡ replayed t limits schedule) → replayed t limits schedule ≡ Ok r
report_is_core t limits schedule result r e (inl memory) = cc
report_is_core t limits schedule result r e (inr core) = cc

pub fault_is_core : (t : Term) (limits : Limits) (schedule : List ℕ) (result : Result Report RunError) (f : RunError) → result ≡ Err f →
    (result ≡ Err run.NoMemory) ⊎ (result ≡ replayed t limits schedule) → f ≢ run.NoMemory → replayed t limits schedule ≡ Err f
fault_is_core t limits schedule result f e (inl memory) other = let same : f ≡ run.NoMemory = cc in absurd (other same)
fault_is_core t limits schedule result f e (inr core) other = cc

pub report_answers : {E : Type 0} (t : Term) (schedule : List ℕ) (limits : Limits) (r : Report) (a : Result Answer E) →
    replayed t limits schedule ≡ Ok r → IfOk a (λ a. a.text.items ≡ text_of_fibers r.fibers) → IfOk a (λ a. a.status ≡ report_status r.fibers) →
    IfOk a (λ a. IsRunAnswer t schedule limits a.text.items a.status)
report_answers t schedule limits r (Ok a) e line status = rw (line, status) (reports r e)
report_answers t schedule limits r (Err x) e line status = tt

pub fault_answers : {E : Type 0} (t : Term) (schedule : List ℕ) (limits : Limits) (f : RunError) (a : Result Answer E) →
    (f ≢ run.NoMemory → replayed t limits schedule ≡ Err f) → IfOk a (λ a. a.text.items ≡ run_line f) → IfOk a (λ a. a.status ≡ ends.Fault) →
    OnOk a (f ≢ run.NoMemory) → IfOk a (λ a. IsRunAnswer t schedule limits a.text.items a.status)
fault_answers t schedule limits f (Ok a) e line status memory = rw (line, status) (faults f (e memory))
fault_answers t schedule limits f (Err x) e line status memory = tt
