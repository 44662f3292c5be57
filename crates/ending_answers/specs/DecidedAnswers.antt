-- The answer to a program whose fair schedules are decided.
use Rattle.std.specs.Prelude.{◌≡◌, ℕ, Bool, true, false, List}
use Rattle.cell_registry.specs.declared.limits.Limits.{Limits}
use Rattle.derived_ops.specs.Expansion.{code_of}
use Rattle.derived_ops.specs.Reading.{source_of}
use Rattle.effect_term.specs.declared.term.Term.{Term}
use Rattle.text_io.specs.declared.status.Status.{Status}
use Rattle.world_search.specs.declared.answers.Bounds.{Bounds}
use Rattle.serde_json.specs.Data.{Data}
use Rattle.json_answers.specs.ReportData.{line_of_data}
use Rattle.exploration_text.specs.declared.wants.Want.{Want}
use Rattle.exploration_text.specs.ExploreAnswers.{IsExplorationOf}
use Rattle.exploration_text.specs.Missing.{missing_of_exploration}
use Rattle.ending_answers.specs.declared.decided.Decided.{Decided}
use Rattle.ending_answers.specs.DecidedData.{IsDecidedData}
use Rattle.ending_answers.specs.DecidedText.{IsDecidedText, decided_status}
use Rattle.ending_answers.specs.Decisions.{IsEndingOf}

-- the answer, in words or as JSON, is that of this decision
abbrev pub Shows : Bool → List Want → Decided → List ℕ → Type 0
Shows false wants it answer = IsDecidedText wants it answer
Shows true wants it answer = (d : Data) × IsDecidedData wants it d × (answer ≡ line_of_data d)

-- the answer and the status of an exploration of the program within the bounds, and of the decision on its fair
-- schedules; `timed` is whether the time of the search was limited, and the note has the lines of the wanted outcomes
-- to which no answer leads
pub record IsDecidedAnswer (json : Bool) (t : Term) (limits : Limits) (bounds : Bounds) (timed : Bool)
    (wants : List Want) (note answer : List ℕ) (status : Status) : Type 0
  where
    pub decided : Decided
    pub explored : IsExplorationOf (code_of (source_of t)) limits bounds timed decided.exploration
    pub ending : IsEndingOf (code_of (source_of t)) limits decided.ending
    pub shows : Shows json wants decided answer
    pub status_is : status ≡ decided_status wants decided
    pub note_is : note ≡ missing_of_exploration wants decided.exploration
