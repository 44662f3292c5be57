-- Answers to texts in JSON.
use Rattle.std.proofs.Common.{◌≡◌, ◌≢◌, ℕ, List, Result, Ok, Err, IfOk, OnOk, inl, inr, subst}
use Rattle.cell_registry.specs.declared.limits.{Limits.Limits, RunError.RunError}
use Rattle.effect_term.specs.declared.{term.Term.Term, refusal.TermError.TermError}
use Rattle.term_parse.specs.declared.error.ParseError.{ParseError}
use Rattle.serde_json.specs.{View.view, declared.value.Value.Value}
use Rattle.outcome_trace.specs.{declared.{text_order.Answer.Answer, lines.Refused.Refused}, Answers.IsRefused, ReplayAnswers.{replayed, report_status}}
use Rattle.scheduled_core.specs.declared.report.Report.{Report}
use Rattle.json_answers.specs.{Answers.{IsJsonRefusal, IsJsonRun, faults, no_program, no_term, reports}, ReportData.{fault_data, line_of_data, report_data}}
use Rattle.json_answers.specs.Refusals.{IsRefusalData, parse_data, term_data}
use Rattle.cell_registry.specs.declared.limits.RunError.TheVariants as run
use Rattle.effect_term.specs.declared.refusal.TermError.TheVariants as term
use Rattle.term_parse.specs.declared.error.ParseError.TheVariants as parse
use Rattle.text_io.specs.declared.status.Status.TheVariants as ends
use Rattle.outcome_trace.specs.declared.lines.Refused.TheVariants as refusals
use Rattle.json_answers.specs.Refusals as values

pub parse_refused : {E : Type 0} (text : List ℕ) (e : ParseError) (r : Refused) → r ≡ refusals.Parse e → IsRefused text r → (a : Result Answer E) →
    IfOk a (λ a. a.text.items ≡ line_of_data (parse_data e)) → IfOk a (λ a. a.status ≡ ends.Refused) → OnOk a (e ≢ parse.NoMemory) →
    IfOk a (λ a. IsJsonRefusal text a.text.items a.status)
parse_refused text e r same why (Ok a) line status memory =
    let at : IsRefused text (refusals.Parse e) = subst (IsRefused text) same why in
    rw (line, status) (no_term text e (at memory))
parse_refused text e r same why (Err x) line status memory = tt

pub term_refused : {E : Type 0} (text : List ℕ) (e : TermError) (r : Refused) → r ≡ refusals.Term e → IsRefused text r → (a : Result Answer E) →
    IfOk a (λ a. a.text.items ≡ line_of_data (term_data e)) → IfOk a (λ a. a.status ≡ ends.Refused) → OnOk a (e ≢ term.NoMemory) →
    IfOk a (λ a. IsJsonRefusal text a.text.items a.status)
term_refused text e r same why (Ok a) line status other =
    let at : IsRefused text (refusals.Term e) = subst (IsRefused text) same why in
    elim at.2 [
      | inl memory ↦ absurd (other memory)
      | inr past ↦ rw (line, status) (no_program text at.0 e at.1 past)
    ]
term_refused text e r same why (Err x) line status other = tt

pub parse_shown : {E : Type 0} (text : List ℕ) (e : ParseError) (r : Refused) → r ≡ refusals.Parse e → IsRefused text r → (v : Result Value E) →
    IfOk v (λ v. view v ≡ parse_data e) → OnOk v (e ≢ parse.NoMemory) → IfOk v (λ v. IsRefusalData text (view v))
parse_shown text e r same why (Ok v) value memory =
    let at : IsRefused text (refusals.Parse e) = subst (IsRefused text) same why in
    rw value (values.no_term text e (at memory))
parse_shown text e r same why (Err x) value memory = tt

pub term_shown : {E : Type 0} (text : List ℕ) (e : TermError) (r : Refused) → r ≡ refusals.Term e → IsRefused text r → (v : Result Value E) →
    IfOk v (λ v. view v ≡ term_data e) → OnOk v (e ≢ term.NoMemory) → IfOk v (λ v. IsRefusalData text (view v))
term_shown text e r same why (Ok v) value other =
    let at : IsRefused text (refusals.Term e) = subst (IsRefused text) same why in
    elim at.2 [
      | inl memory ↦ absurd (other memory)
      | inr past ↦ rw value (values.no_program text at.0 e at.1 past)
    ]
term_shown text e r same why (Err x) value other = tt

pub report_answers : {E : Type 0} (t : Term) (schedule : List ℕ) (limits : Limits) (r : Report) (a : Result Answer E) →
    replayed t limits schedule ≡ Ok r → IfOk a (λ a. a.text.items ≡ line_of_data (report_data r.fibers)) →
    IfOk a (λ a. a.status ≡ report_status r.fibers) → IfOk a (λ a. IsJsonRun t schedule limits a.text.items a.status)
report_answers t schedule limits r (Ok a) e line status = rw (line, status) (reports r e)
report_answers t schedule limits r (Err x) e line status = tt

pub fault_answers : {E : Type 0} (t : Term) (schedule : List ℕ) (limits : Limits) (f : RunError) (a : Result Answer E) →
    (f ≢ run.NoMemory → replayed t limits schedule ≡ Err f) → IfOk a (λ a. a.text.items ≡ line_of_data (fault_data f)) →
    IfOk a (λ a. a.status ≡ ends.Fault) → OnOk a (f ≢ run.NoMemory) → IfOk a (λ a. IsJsonRun t schedule limits a.text.items a.status)
fault_answers t schedule limits f (Ok a) e line status memory = rw (line, status) (faults f (e memory))
fault_answers t schedule limits f (Err x) e line status memory = tt
