-- Answers with a timeline.
use Rattle.std.{proofs.Common.{◌≡◌, ℕ, List, ◌∷◌, ◌++◌, Ok, Err, sym, ◌∙◌, ap, subst}, specs.Prelude.{Result, IfOk}}
use Rattle.cell_registry.specs.declared.limits.{Limits.Limits, RunError.RunError}
use Rattle.effect_term.specs.declared.term.Term.{Term}
use Rattle.text_io.specs.declared.status.Status.{Status}
use Rattle.outcome_trace.specs.{declared.text_order.Answer.Answer, ReplayAnswers.{IsRunAnswer, reports, faults, replayed}}
use Rattle.scheduled_core.specs.declared.report.Report.{Report}
use Rattle.timelines.specs.TimelineAnswers.{IsToldAnswer, end_status, end_text}

-- the end of a run gives the answer without a timeline
runs : (t : Term) (s : List ℕ) (k : Limits) (end : Result Report RunError) → replayed t k s ≡ end → IsRunAnswer t s k (end_text end) (end_status end)
runs t s k (Ok r) e = reports r e
runs t s k (Err x) e = faults x e

pub told_answers : {E : Type 0} (t : Term) (s : List ℕ) (k : Limits) (front : Answer) (end : Result Report RunError) (rows : List ℕ)
    (r : Result Answer E) → replayed t k s ≡ end → front.text.items ≡ end_text end → front.status ≡ end_status end →
    IfOk r (λ a. a.text.items ≡ front.text.items ++ 10 ∷ rows) → IfOk r (λ a. a.status ≡ front.status) → IfOk r (λ a. IsToldAnswer t s k a.text.items a.status)
told_answers t s k front end rows (Ok a) core text status behind same = record {
  front = end_text end;
  timeline = rows;
  text_is = behind ∙ ap (λ (xs : List ℕ). xs ++ 10 ∷ rows) text;
  runs = subst (λ (x : Status). IsRunAnswer t s k (end_text end) x) (sym (same ∙ status)) (runs t s k end core);
}
told_answers t s k front end rows (Err x) core text status behind same = tt
