-- Answers to programs whose fair schedules are decided.
use Rattle.std.proofs.Common.{◌≡◌, ◌∙◌, ℕ, Bool, false, List, refl, ap, subst}
use Rattle.cell_registry.specs.declared.limits.Limits.{Limits}
use Rattle.derived_ops.specs.{Expansion.code_of, Reading.source_of}
use Rattle.effect_term.specs.declared.term.Term.{Term}
use Rattle.fair_ends.specs.declared.ending.Ending.{Ending}
use Rattle.text_io.specs.declared.status.Status.{Status}
use Rattle.world_search.specs.declared.answers.Bounds.{Bounds}
use Rattle.serde_json.specs.{Data.Data, Written.has_float}
use Rattle.json_answers.proofs.{FoundPlain.exploration_plain, Plain.or_plain}
use Rattle.exploration_text.specs.{declared.wants.Want.Want, ExploreAnswers.IsExplorationOf, Missing.missing_of_exploration}
use Rattle.ending_answers.specs.{declared.decided.Decided.Decided, DecidedAnswers.{IsDecidedAnswer, Shows}, DecidedData.{IsDecidedData, IsEndingData}}
use Rattle.ending_answers.specs.{DecidedText.decided_status, Decisions.IsEndingOf}
use Rattle.fair_ends.specs.declared.ending.Ending.TheVariants as decided

-- the answer, with the wants of the order
pub answered : (json : Bool) (t : Term) (limits : Limits) (bounds : Bounds) (timed : Bool) (wants ws : List Want) (note answer : List ℕ)
    (status : Status) (it : Decided) → ws ≡ wants → IsExplorationOf (code_of (source_of t)) limits bounds timed it.exploration →
    IsEndingOf (code_of (source_of t)) limits it.ending → Shows json ws it answer → status ≡ decided_status ws it →
    note ≡ missing_of_exploration ws it.exploration → IsDecidedAnswer json t limits bounds timed wants note answer status
answered json t limits bounds timed wants ws note answer status it same explored ending shows status_is note_is = record {
  decided = it;
  explored = explored;
  ending = ending;
  shows = subst (λ (l : List Want). Shows json l it answer) same shows;
  status_is = status_is ∙ ap (λ l. decided_status l it) same;
  note_is = note_is ∙ ap (λ l. missing_of_exploration l it.exploration) same;
}

-- ---- no value holds a floating-point number
ending_plain : (e : Ending) (d : Data) → IsEndingData e d → has_float d ≡ false
ending_plain decided.Ends d h = ap has_float h
ending_plain (decided.Repeats c) d h = ap has_float h.4
ending_plain decided.Undecided d h = ap has_float h

pub decided_plain : (wants : List Want) (it : Decided) (d : Data) → IsDecidedData wants it d → has_float d ≡ false
decided_plain wants it d h =
    ap has_float h.data_is ∙ or_plain (has_float h.explored) _ (exploration_plain wants it.exploration h.explored h.explored_is)
    (or_plain (has_float h.ending) false (ending_plain it.ending h.ending h.ending_is) refl)
