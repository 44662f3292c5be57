-- Answers to programs whose outcomes are explored.
use Rattle.std.proofs.Common.{◌≡◌, ◌∙◌, ℕ, zero, suc, ◌<◌, ◌≤◌, Bool, true, false, List, [], ◌∷◌, length, map, refl, sym, ap, subst, arith}
use Rattle.std.{proofs.lemmas.Option.same_Some, specs.{Prelude.Some, List.{All, slice_get}}}
use Rattle.cell_registry.specs.declared.limits.Limits.{Limits}
use Rattle.derived_ops.specs.{Expansion.code_of, Reading.source_of}
use Rattle.effect_term.specs.declared.term.Term.{Term}
use Rattle.text_io.specs.declared.status.Status.{Status}
use Rattle.world_search.specs.declared.answers.Bounds.{Bounds}
use Rattle.every_outcome.{specs.declared.outcomes.{OutcomeAnswer.OutcomeAnswer, OutcomeExploration.OutcomeExploration}, proofs.Told.{all_at, all_from}}
use Rattle.every_schedule.specs.declared.exploration.{Answer.Answer, Exploration.Exploration}
use Rattle.exploration_text.specs.{declared.wants.Want.Want, ExplorationText.{IsSpellable, exploration_status}, Missing.missing_of_exploration}
use Rattle.outcome_answers.specs.{OutcomeAnswers.{IsOutcomesAnswer, Shows}, OutcomesFound.IsOutcomesOf, OutcomesShown.{AreShown, IsShown, shown_answer}}

map_at : {A B : Type 0} (f : A → B) (xs : List A) (j : ℕ) (y : B) → slice_get (map f xs) j ≡ Some y → (x : A) × (slice_get xs j ≡ Some x) × (y ≡ f x)
map_at f [] j y e = absurd (cc)
map_at f (x ∷ xs) zero y e = (x, refl, sym (same_Some (f x) y e))
map_at f (x ∷ xs) (suc j) y e = map_at f xs j y e

-- each written answer is one of the found answers
from_found : (only_first : Bool) (answers : List OutcomeAnswer) (shown : List Answer) → AreShown only_first answers shown → (j : ℕ) (s : Answer) →
    slice_get shown j ≡ Some s → (i : ℕ) × (a : OutcomeAnswer) × (slice_get answers i ≡ Some a) × (s ≡ shown_answer only_first a)
from_found true answers shown are j s at = let h = are.among j s at in (h.0, h.1, h.2, h.3)
from_found false answers shown are j s at =
    let h = map_at (shown_answer false) answers j s (subst (λ l. slice_get l j ≡ Some s) are at) in (j, h.0, h.1, h.2)

-- the schedules of the written answers can be spelled
pub spellable : (only_first : Bool) (found : OutcomeExploration) (shown : Exploration) (most : ℕ) → most ≤ 1000000 → IsShown only_first found shown →
    All (λ a. All (λ f. f < 1000) a.schedule) found.answers.items → All (λ a. length a.schedule ≤ most) found.answers.items →
    All IsSpellable shown.answers
spellable only_first found shown most bound are numbers short = all_from IsSpellable shown.answers (λ j s at.
    let h = from_found only_first found.answers.items shown.answers are.answers j s at in
    let low = all_at (λ (a : OutcomeAnswer). length a.schedule ≤ most) found.answers.items h.0 h.1 h.2 short in
    subst IsSpellable (sym h.3) record {
      numbers = all_at (λ (a : OutcomeAnswer). All (λ f. f < 1000) a.schedule) found.answers.items h.0 h.1 h.2 numbers;
      few = omega arith;
    })

-- the answer, with the wants of the order
pub answered : (json only_first : Bool) (t : Term) (limits : Limits) (bounds : Bounds) (timed : Bool) (wants ws : List Want) (note answer : List ℕ)
    (status : Status) (found : OutcomeExploration) (shown : Exploration) → ws ≡ wants → IsOutcomesOf (code_of (source_of t)) limits bounds timed found →
    IsShown only_first found shown → Shows json false ws shown answer → status ≡ exploration_status ws shown → note ≡ missing_of_exploration ws shown →
    IsOutcomesAnswer json only_first t limits bounds timed wants note answer status
answered json only_first t limits bounds timed wants ws note answer status found shown same found_is shown_is shows status_is note_is = record {
  found = found;
  shown = shown;
  found_is = found_is;
  shown_is = shown_is;
  shows = subst (λ (l : List Want). Shows json false l shown answer) same shows;
  status_is = status_is ∙ ap (λ l. exploration_status l shown) same;
  note_is = note_is ∙ ap (λ l. missing_of_exploration l shown) same;
}
