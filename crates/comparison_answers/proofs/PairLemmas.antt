-- Answers to two texts.
use Rattle.std.proofs.Common.{◌≡◌, ◌<◌, ◌++◌, ◌||◌, ◌∙◌, ℕ, Bool, false, List, Result, Ok, Err, IfOk, length, codes, refl, sym, ap, subst}
use Rattle.std.proofs.lemmas.Option.{slice_get_within}
use Rattle.cell_registry.specs.declared.limits.{Limits.Limits, RunError.RunError}
use Rattle.scheduled_core.specs.declared.report.Report.{Report}
use Rattle.derived_ops.specs.Tree.{Tree}
use Rattle.effect_term.specs.{declared.term.Term.Term, Programs.IsProgram}
use Rattle.term_parse.specs.{Atoms.atoms_of, Reading.reading}
use Rattle.text_io.specs.declared.status.Status.{Status}
use Rattle.outcome_trace.specs.{declared.text_order.Answer.Answer, Answers.IsRefusalAnswer}
use Rattle.world_search.specs.declared.answers.Bounds.{Bounds}
use Rattle.every_schedule.specs.declared.exploration.{Answer.Answer as Found, Exploration.Exploration}
use Rattle.serde_json.specs.{Data.Data, Written.has_float}
use Rattle.json_answers.{specs.ReportData.{fault_data, report_data}, proofs.Plain.{fault_plain, or_plain, report_plain}}
use Rattle.compared_ends.specs.{declared.{basis.Basis.Basis, comparison.{Comparison.Comparison, Extra.Extra}}, Comparisons.IsExtra}
use Rattle.comparison_answers.specs.{ComparisonData.{IsComparisonData, IsExtraData, end_data, side_data}, PairAnswers.{IsComparedAnswer, IsPairAnswer}}
use Rattle.comparison_answers.specs.PairAnswers.{IsSecondAnswer, Refuses, compares, first_read, first_refused, second_refused}
use Rattle.compared_ends.specs.declared.comparison.Extra.TheVariants as extra

-- an end that only one program has is that of one of its answers
pub within : (basis : Basis) (c d : Tree) (k : Limits) (one other : Exploration) (x : Extra) → IsExtra basis c d k one other x → (i : ℕ) →
    x ≡ extra.Answer i → i < length one.answers
within basis c d k one other x is i same =
    let at : IsExtra basis c d k one other (extra.Answer i) = subst (IsExtra basis c d k one other) same is in
    slice_get_within one.answers i at.0 at.1

pub first_pair : {E : Type 0} (json : Bool) (k : Limits) (bounds : Bounds) (basis : Basis) (first second : List ℕ) (a : Result Answer E) →
    IfOk a (λ a. Refuses json (codes "first") first a.text.items a.status) →
    IfOk a (λ a. IsPairAnswer json k bounds basis first second a.text.items a.status)
first_pair json k bounds basis first second (Ok a) h = first_refused h
first_pair json k bounds basis first second (Err e) h = tt

pub pair_read : {E : Type 0} (json : Bool) (k : Limits) (bounds : Bounds) (basis : Basis) (first second : List ℕ) (t : Term) (a : Result Answer E) →
    reading first ≡ Ok (atoms_of t) → IsProgram t → IfOk a (λ a. IsSecondAnswer json k bounds basis t second a.text.items a.status) →
    IfOk a (λ a. IsPairAnswer json k bounds basis first second a.text.items a.status)
pair_read json k bounds basis first second t (Ok a) reads program h = first_read t reads program h
pair_read json k bounds basis first second t (Err e) reads program h = tt

pub second_pair : {E : Type 0} (json : Bool) (k : Limits) (bounds : Bounds) (basis : Basis) (t : Term) (second : List ℕ) (a : Result Answer E) →
    IfOk a (λ a. Refuses json (codes "second") second a.text.items a.status) →
    IfOk a (λ a. IsSecondAnswer json k bounds basis t second a.text.items a.status)
second_pair json k bounds basis t second (Ok a) h = second_refused h
second_pair json k bounds basis t second (Err e) h = tt

pub pair_compared : {E : Type 0} (json : Bool) (k : Limits) (bounds : Bounds) (basis : Basis) (t : Term) (second : List ℕ) (u : Term) (a : Result Answer E) →
    reading second ≡ Ok (atoms_of u) → IsProgram u → IfOk a (λ a. IsComparedAnswer json t u k bounds basis a.text.items a.status) →
    IfOk a (λ a. IsSecondAnswer json k bounds basis t second a.text.items a.status)
pair_compared json k bounds basis t second u (Ok a) reads program h = compares u reads program h
pair_compared json k bounds basis t second u (Err e) reads program h = tt

-- the line of a refusal, after the name of its side
pub line_refused : {E : Type 0} (side text line : List ℕ) (status : Status) (a : Result Answer E) → IsRefusalAnswer text line status →
    IfOk a (λ a. a.text.items ≡ side ++ (codes ": " ++ line)) → IfOk a (λ a. a.status ≡ status) →
    IfOk a (λ a. Refuses false side text a.text.items a.status)
line_refused side text line status (Ok a) is text_is same = (line, subst (IsRefusalAnswer text line) (sym same) is, text_is)
line_refused side text line status (Err e) is text_is same = tt

-- no value of a comparison holds a floating-point number
end_plain : (schedule : List ℕ) (end : Result Report RunError) → has_float (end_data schedule end) ≡ false
end_plain schedule (Ok r) = or_plain (has_float (report_data r.fibers)) false (report_plain r.fibers) refl
end_plain schedule (Err e) = or_plain (has_float (fault_data e)) false (fault_plain e) refl

extra_plain : (answers : List Found) (x : Extra) (d : Data) → IsExtraData answers x d → has_float d ≡ false
extra_plain answers (extra.Answer i) d h = ap has_float h.4 ∙ end_plain h.1 h.0.end
extra_plain answers extra.Nothing d h = ap has_float h
extra_plain answers extra.Undecided d h = ap has_float h

side_plain : (e : Exploration) (d : Data) → has_float d ≡ false → has_float (side_data e d) ≡ false
side_plain e d h = or_plain (has_float d) false h refl

pub comparison_plain : (it : Comparison) (d : Data) → IsComparisonData it d → has_float d ≡ false
comparison_plain it d h =
    ap has_float h.data_is
    ∙ or_plain (has_float (side_data it.first h.first)) (has_float (side_data it.second h.second) || false)
    (side_plain it.first h.first (extra_plain it.first.answers it.first_extra h.first h.first_is))
    (or_plain (has_float (side_data it.second h.second)) false
    (side_plain it.second h.second (extra_plain it.second.answers it.second_extra h.second h.second_is)) refl)
