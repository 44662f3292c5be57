-- No value of an exploration or of a sample holds a number with a point.
use Rattle.std.{proofs.Common.{◌≡◌, ℕ, Bool, true, false, not, List, [], ◌∷◌, ◌++◌, ◌||◌, Result, Ok, Err, refl, sym, ap, ◌∙◌}, specs.List.filter}
use Rattle.cell_registry.specs.declared.limits.RunError.{RunError}
use Rattle.scheduled_core.specs.declared.report.Report.{Report}
use Rattle.every_schedule.specs.declared.exploration.{Answer.Answer, Exploration.Exploration}
use Rattle.exploration_text.specs.{declared.wants.Want.Want, ExplorationText.is_listed_so, SampleText.is_unwanted}
use Rattle.sampled_schedules.specs.declared.comings.{Coming.Coming, Sample.Sample}
use Rattle.serde_json.specs.{Data.{Data, Items}, View.items_of, Written.{has_float, items_have_float}}
use Rattle.json_answers.specs.{ExplorationData.{AreAnswersData, IsExplorationData, exploration_data, found_data}, ReportData.{fault_data, report_data}}
use Rattle.json_answers.{specs.SampleData.{AreComingsData, IsSampleData, came_data}, proofs.Plain.{fault_plain, or_plain, report_plain}}

or_assoc : (a b c : Bool) → ((a || b) || c) ≡ (a || (b || c))
or_assoc true b c = refl
or_assoc false b c = refl

both : (xs ys : List Data) → items_have_float (items_of (xs ++ ys)) ≡ (items_have_float (items_of xs) || items_have_float (items_of ys))
both [] ys = refl
both (d ∷ xs) ys =
    ap (λ b. has_float d || b) (both xs ys) ∙ sym (or_assoc (has_float d) (items_have_float (items_of xs)) (items_have_float (items_of ys)))

found_plain : (schedule : List ℕ) (wanted : Bool) (end : Result Report RunError) → has_float (found_data schedule wanted end) ≡ false
found_plain schedule wanted (Ok r) = or_plain (has_float (report_data r.fibers)) false (report_plain r.fibers) refl
found_plain schedule wanted (Err e) = or_plain (has_float (fault_data e)) false (fault_plain e) refl

came_plain : (times : ℕ) (cut : Bool) (schedule : List ℕ) (wanted : Bool) (end : Result Report RunError) → has_float (came_data times cut schedule wanted end) ≡ false
came_plain times cut schedule wanted (Ok r) = or_plain (has_float (report_data r.fibers)) false (report_plain r.fibers) refl
came_plain times cut schedule wanted (Err e) = or_plain (has_float (fault_data e)) false (fault_plain e) refl

answers_plain : (u : Bool) (answers : List Answer) (ds : List Data) → AreAnswersData u answers ds → items_have_float (items_of ds) ≡ false
answers_plain u [] ds h = ap (λ xs. items_have_float (items_of xs)) h
answers_plain u (a ∷ answers) ds h =
    ap (λ xs. items_have_float (items_of xs)) h.2
    ∙ or_plain (has_float h.0) (items_have_float (items_of h.1)) (ap has_float h.3.data_is ∙ found_plain h.3.schedule (not u) a.end)
    (answers_plain u answers h.1 h.4)

comings_plain : (wants : List Want) (comings : List Coming) (ds : List Data) → AreComingsData wants comings ds → items_have_float (items_of ds) ≡ false
comings_plain wants [] ds h = ap (λ xs. items_have_float (items_of xs)) h
comings_plain wants (c ∷ comings) ds h =
    ap (λ xs. items_have_float (items_of xs)) h.2
    ∙ or_plain (has_float h.0) (items_have_float (items_of h.1)) (ap has_float h.3.data_is ∙ came_plain c.times c.cut h.3.schedule (not (is_unwanted wants c)) c.answer.end)
    (comings_plain wants comings h.1 h.4)

data_plain : (xs : Items) (complete halted : Bool) (worlds bytes : ℕ) → items_have_float xs ≡ false →
    has_float (exploration_data xs complete halted worlds bytes) ≡ false
data_plain xs true halted worlds bytes none = or_plain (items_have_float xs) false none refl
data_plain xs false false worlds bytes none = or_plain (items_have_float xs) false none refl
data_plain xs false true worlds bytes none = or_plain (items_have_float xs) false none refl

pub exploration_plain : (wants : List Want) (e : Exploration) (d : Data) → IsExplorationData wants e d → has_float d ≡ false
exploration_plain wants e d h =
    ap has_float h.data_is
    ∙ data_plain (items_of (h.unwanted ++ h.others)) e.complete e.halted e.worlds e.bytes
    (both h.unwanted h.others ∙ or_plain (items_have_float (items_of h.unwanted)) (items_have_float (items_of h.others))
    (answers_plain true (filter (λ a. is_listed_so true wants a) e.answers) h.unwanted h.unwanted_is)
    (answers_plain false (filter (λ a. is_listed_so false wants a) e.answers) h.others h.others_are))

pub sample_plain : (wants : List Want) (seed : ℕ) (s : Sample) (d : Data) → IsSampleData wants seed s d → has_float d ≡ false
sample_plain wants seed s d h =
    ap has_float h.data_is
    ∙ or_plain (items_have_float (items_of h.comings)) false (comings_plain wants s.comings h.comings h.comings_are) refl
