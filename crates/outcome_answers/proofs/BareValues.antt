-- The values of answers, one answer at a time.
use Rattle.std.proofs.Common.{◌≡◌, ℕ, Bool, true, false, not, List, ◌++◌, Result, Ok, Err, IfOk, map}
use Rattle.std.proofs.{Common.{ap, ◌∙◌, subst}, lemmas.List.map-append}
use Rattle.text_io.specs.Schedule.{SpellsEntries}
use Rattle.every_schedule.specs.declared.exploration.{Answer.Answer, Exploration.Exploration}
use Rattle.exploration_text.specs.declared.wants.Want.{Want}
use Rattle.serde_json.specs.{View.{items_of, items_view, view}, declared.value.Value.Value}
use Rattle.outcome_answers.specs.OutcomesData.{IsOutcomesData, IsShownData, IsShownPart, outcomes_data, shown_found}

pub answer_found : {E : Type 0} (says u : Bool) (a : Answer) (schedule : List ℕ) (r : Result Value E) → SpellsEntries schedule a.schedule →
    IfOk r (λ v. view v ≡ shown_found says schedule (not u) a.end) → IfOk r (λ v. IsShownData says u a (view v))
answer_found says u a schedule (Ok v) spelled made = record { schedule = schedule; spelled = spelled; data_is = made }
answer_found says u a schedule (Err e) spelled made = tt

pub outcomes_found : {E : Type 0} (says : Bool) (wants : List Want) (e : Exploration) (answers : List Answer) (all some others : List Value)
    (r : Result Value E) → answers ≡ e.answers → all ≡ some ++ others → IsShownPart says true wants answers (map view some) →
    IsShownPart says false wants answers (map view others) →
    IfOk r (λ v. view v ≡ outcomes_data says (items_view all) e.complete e.halted e.worlds e.bytes) → IfOk r (λ v. IsOutcomesData says wants e (view v))
outcomes_found says wants e answers all some others (Ok v) same is unwanted rest made = record {
  unwanted = map view some;
  others = map view others;
  data_is = made ∙ ap (λ ds. outcomes_data says (items_of ds) e.complete e.halted e.worlds e.bytes)
      (ap (λ xs. map view xs) is ∙ map-append view some others);
  unwanted_is = subst (λ xs. IsShownPart says true wants xs (map view some)) same unwanted;
  others_are = subst (λ xs. IsShownPart says false wants xs (map view others)) same rest;
}
outcomes_found says wants e answers all some others (Err x) same is unwanted rest made = tt
