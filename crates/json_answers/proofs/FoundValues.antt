-- The values of answers, one answer at a time.
use Rattle.std.proofs.Common.{◌≡◌, ◌+◌, ◌<◌, ◌≤◌, ℕ, Bool, true, false, not, List, [], ◌∷◌, ◌++◌, Result, Ok, Err, IfOk, length, drop, get_or, map, refl}
use Rattle.std.proofs.{Common.{sym, ap, ◌∙◌, subst, append_assoc, append-nil}, lemmas.List.{drop_all, map-append}}
use Rattle.text_io.specs.Schedule.{SpellsEntries}
use Rattle.every_schedule.specs.declared.exploration.{Answer.Answer, Exploration.Exploration}
use Rattle.exploration_text.{specs.{declared.wants.Want.Want, SampleText.is_unwanted}, proofs.Parts.from_here}
use Rattle.sampled_schedules.specs.declared.comings.{Coming.Coming, Sample.Sample}
use Rattle.serde_json.specs.{Data.Data, View.{items_of, items_view, view}, declared.value.Value.Value}
use Rattle.json_answers.specs.ExplorationData.{IsAnswerData, IsExplorationData, IsPartData, exploration_data, found_data}
use Rattle.json_answers.specs.SampleData.{AreComingsData, IsComingData, IsSampleData, came_data, sample_data}

pub one_more : (vs new : List Value) (v : Value) → new ≡ vs ++ v ∷ [] → map view new ≡ map view vs ++ view v ∷ []
one_more vs new v is = ap (λ xs. map view xs) is ∙ map-append view vs (v ∷ [])

-- followed by the values of the ends from number i on, the values are those of all ends
abbrev pub IsCameFront : List Want → List Coming → ℕ → List Data → Type 0
IsCameFront wants all i ds = (behind : List Data) → AreComingsData wants (drop i all) behind → AreComingsData wants all (ds ++ behind)

pub came : (wants : List Want) (all : List Coming) (i : ℕ) (c : Coming) (ds new : List Data) (d : Data) → i < length all → c ≡ get_or all i c →
    IsComingData wants c d → new ≡ ds ++ d ∷ [] → IsCameFront wants all i ds → IsCameFront wants all (i + 1) new
came wants all i c ds new d low at is new_is front = λ behind h.
    let first : AreComingsData wants (c ∷ drop (i + 1) all) (d ∷ behind) = (d, behind, refl, is, h) in
    let here : AreComingsData wants (drop i all) (d ∷ behind) =
    subst (λ xs. AreComingsData wants xs (d ∷ behind)) (sym (from_here all i c low at)) first in
    subst (λ t. AreComingsData wants all t) (sym (ap (λ t. t ++ behind) new_is ∙ append_assoc ds (d ∷ []) behind))
    (front (d ∷ behind) here)

pub all_came : (wants : List Want) (all : List Coming) (i : ℕ) (ds : List Data) → length all ≤ i → IsCameFront wants all i ds →
    AreComingsData wants all ds
all_came wants all i ds past front =
    let none : AreComingsData wants (drop i all) [] = subst (λ xs. AreComingsData wants xs []) (sym (drop_all i all past)) refl in
    subst (λ t. AreComingsData wants all t) (append-nil ds) (front [] none)

pub answer_found : {E : Type 0} (u : Bool) (a : Answer) (schedule : List ℕ) (r : Result Value E) → SpellsEntries schedule a.schedule →
    IfOk r (λ v. view v ≡ found_data schedule (not u) a.end) → IfOk r (λ v. IsAnswerData u a (view v))
answer_found u a schedule (Ok v) spelled made = record { schedule = schedule; spelled = spelled; data_is = made }
answer_found u a schedule (Err e) spelled made = tt

pub coming_found : {E : Type 0} (wants : List Want) (c : Coming) (schedule : List ℕ) (r : Result Value E) → SpellsEntries schedule c.answer.schedule →
    IfOk r (λ v. view v ≡ came_data c.times c.cut schedule (not (is_unwanted wants c)) c.answer.end) → IfOk r (λ v. IsComingData wants c (view v))
coming_found wants c schedule (Ok v) spelled made = record { schedule = schedule; spelled = spelled; data_is = made }
coming_found wants c schedule (Err e) spelled made = tt

pub exploration_found : {E : Type 0} (wants : List Want) (e : Exploration) (answers : List Answer) (all some others : List Value)
    (r : Result Value E) → answers ≡ e.answers → all ≡ some ++ others → IsPartData true wants answers (map view some) →
    IsPartData false wants answers (map view others) → IfOk r (λ v. view v ≡ exploration_data (items_view all) e.complete e.halted e.worlds e.bytes) →
    IfOk r (λ v. IsExplorationData wants e (view v))
exploration_found wants e answers all some others (Ok v) same is unwanted rest made = record {
  unwanted = map view some;
  others = map view others;
  data_is = made ∙ ap (λ ds. exploration_data (items_of ds) e.complete e.halted e.worlds e.bytes)
      (ap (λ xs. map view xs) is ∙ map-append view some others);
  unwanted_is = subst (λ xs. IsPartData true wants xs (map view some)) same unwanted;
  others_are = subst (λ xs. IsPartData false wants xs (map view others)) same rest;
}
exploration_found wants e answers all some others (Err x) same is unwanted rest made = tt

pub sample_found : {E : Type 0} (wants : List Want) (seed : ℕ) (s : Sample) (comings : List Coming) (all : List Value) (r : Result Value E) →
    comings ≡ s.comings → AreComingsData wants comings (map view all) →
    IfOk r (λ v. view v ≡ sample_data (items_view all) seed s.schedules) → IfOk r (λ v. IsSampleData wants seed s (view v))
sample_found wants seed s comings all (Ok v) same are made = record {
  comings = map view all;
  data_is = made;
  comings_are = subst (λ xs. AreComingsData wants xs (map view all)) same are;
}
sample_found wants seed s comings all (Err x) same are made = tt
