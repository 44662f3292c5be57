-- No value of outcomes holds a floating-point number.
use Rattle.std.proofs.Common.{◌≡◌, ℕ, ◌+◌, ℤ, pos, negsuc, Bool, true, false, not, List, [], ◌∷◌, ◌++◌, ◌||◌, Option, Some, None, Result, Ok, Err, refl, sym}
use Rattle.std.{proofs.Common.{ap, ◌∙◌}, specs.List.filter}
use Rattle.cell_registry.specs.declared.limits.RunError.{RunError}
use Rattle.effect_term.specs.declared.reply.Outcome.{Outcome, TheVariants.{Succeeded, Errored, Canceled}}
use Rattle.scheduled_core.specs.declared.report.{FiberReport.FiberReport, Report.Report}
use Rattle.every_schedule.specs.declared.exploration.{Answer.Answer, Exploration.Exploration}
use Rattle.exploration_text.specs.{declared.wants.Want.Want, ExplorationText.is_listed_so}
use Rattle.serde_json.specs.{Data.{Data, Items}, Find.{is_float, of_integer}, View.items_of, Written.{has_float, items_have_float}}
use Rattle.json_answers.{specs.ReportData.{fault_data, outcome_data}, proofs.Plain.{fault_plain, or_plain, report_plain}}
use Rattle.outcome_answers.specs.OutcomesData.{AreShownData, IsOutcomesData, bare_fiber, bare_items, bare_report, outcomes_data, shown_found, shown_report}

integer_plain : (z : ℤ) → is_float (of_integer z) ≡ false
integer_plain (pos n) = refl
integer_plain (negsuc n) = refl

outcome_plain : (o : Option Outcome) → has_float (outcome_data o) ≡ false
outcome_plain (Some (Succeeded v)) = or_plain (is_float (of_integer v)) false (integer_plain v) refl
outcome_plain (Some (Errored c)) = or_plain (is_float (of_integer c)) false (integer_plain c) refl
outcome_plain (Some Canceled) = refl
outcome_plain None = refl

fiber_plain : (n : ℕ) (o : Option Outcome) → has_float (bare_fiber n o) ≡ false
fiber_plain n o = or_plain (has_float (outcome_data o)) false (outcome_plain o) refl

fibers_plain : (n : ℕ) (fs : List FiberReport) → items_have_float (bare_items n fs) ≡ false
fibers_plain n [] = refl
fibers_plain n (f ∷ fs) =
    or_plain (has_float (bare_fiber n f.outcome)) (items_have_float (bare_items (n + 1) fs)) (fiber_plain n f.outcome) (fibers_plain (n + 1) fs)

bare_plain : (fs : List FiberReport) → has_float (bare_report fs) ≡ false
bare_plain fs = or_plain (items_have_float (bare_items 0 fs)) false (fibers_plain 0 fs) refl

shown_plain : (says : Bool) (fs : List FiberReport) → has_float (shown_report says fs) ≡ false
shown_plain true fs = report_plain fs
shown_plain false fs = bare_plain fs

or_assoc : (a b c : Bool) → ((a || b) || c) ≡ (a || (b || c))
or_assoc true b c = refl
or_assoc false b c = refl

both : (xs ys : List Data) → items_have_float (items_of (xs ++ ys)) ≡ (items_have_float (items_of xs) || items_have_float (items_of ys))
both [] ys = refl
both (d ∷ xs) ys =
    ap (λ b. has_float d || b) (both xs ys) ∙ sym (or_assoc (has_float d) (items_have_float (items_of xs)) (items_have_float (items_of ys)))

found_plain : (says : Bool) (schedule : List ℕ) (wanted : Bool) (end : Result Report RunError) →
    has_float (shown_found says schedule wanted end) ≡ false
found_plain says schedule wanted (Ok r) = or_plain (has_float (shown_report says r.fibers)) false (shown_plain says r.fibers) refl
found_plain says schedule wanted (Err e) = or_plain (has_float (fault_data e)) false (fault_plain e) refl

answers_plain : (says u : Bool) (answers : List Answer) (ds : List Data) → AreShownData says u answers ds → items_have_float (items_of ds) ≡ false
answers_plain says u [] ds h = ap (λ xs. items_have_float (items_of xs)) h
answers_plain says u (a ∷ answers) ds h =
    ap (λ xs. items_have_float (items_of xs)) h.2
    ∙ or_plain (has_float h.0) (items_have_float (items_of h.1)) (ap has_float h.3.data_is ∙ found_plain says h.3.schedule (not u) a.end)
    (answers_plain says u answers h.1 h.4)

data_plain : (says : Bool) (xs : Items) (complete halted : Bool) (worlds bytes : ℕ) → items_have_float xs ≡ false →
    has_float (outcomes_data says xs complete halted worlds bytes) ≡ false
data_plain says xs true halted worlds bytes none = or_plain (items_have_float xs) false none refl
data_plain says xs false false worlds bytes none = or_plain (items_have_float xs) false none refl
data_plain says xs false true worlds bytes none = or_plain (items_have_float xs) false none refl

pub outcomes_plain : (says : Bool) (wants : List Want) (e : Exploration) (d : Data) → IsOutcomesData says wants e d → has_float d ≡ false
outcomes_plain says wants e d h =
    ap has_float h.data_is
    ∙ data_plain says (items_of (h.unwanted ++ h.others)) e.complete e.halted e.worlds e.bytes
    (both h.unwanted h.others ∙ or_plain (items_have_float (items_of h.unwanted)) (items_have_float (items_of h.others))
    (answers_plain says true (filter (λ a. is_listed_so true wants a) e.answers) h.unwanted h.unwanted_is)
    (answers_plain says false (filter (λ a. is_listed_so false wants a) e.answers) h.others h.others_are))
