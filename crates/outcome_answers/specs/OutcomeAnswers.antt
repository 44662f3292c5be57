-- The answer to a program whose outcomes are explored, or its outcomes and says.
use Rattle.std.specs.Prelude.{◌≡◌, ℕ, Bool, true, false, List}
use Rattle.cell_registry.specs.declared.limits.Limits.{Limits}
use Rattle.derived_ops.specs.Expansion.{code_of}
use Rattle.derived_ops.specs.Reading.{source_of}
use Rattle.effect_term.specs.declared.term.Term.{Term}
use Rattle.text_io.specs.declared.status.Status.{Status}
use Rattle.world_search.specs.declared.answers.Bounds.{Bounds}
use Rattle.every_outcome.specs.declared.outcomes.OutcomeExploration.{OutcomeExploration}
use Rattle.every_schedule.specs.declared.exploration.Exploration.{Exploration}
use Rattle.serde_json.specs.Data.{Data}
use Rattle.json_answers.specs.ReportData.{line_of_data}
use Rattle.exploration_text.specs.declared.wants.Want.{Want}
use Rattle.exploration_text.specs.ExplorationText.{IsExplorationText, exploration_status}
use Rattle.exploration_text.specs.Missing.{missing_of_exploration}
use Rattle.outcome_answers.specs.OutcomesData.{IsOutcomesData}
use Rattle.outcome_answers.specs.OutcomesFound.{IsOutcomesOf}
use Rattle.outcome_answers.specs.OutcomesShown.{IsShown}
use Rattle.outcome_answers.specs.SaysFound.{IsSaysOf}

-- the answer, in words or as JSON, is that of this exploration; with `says` its reports have marks
abbrev pub Shows : (json says : Bool) → List Want → Exploration → List ℕ → Type 0
Shows false says wants shown answer = IsExplorationText wants shown answer
Shows true says wants shown answer = (d : Data) × IsOutcomesData says wants shown d × (answer ≡ line_of_data d)

-- the answer and the status of the outcomes of the program within the bounds, of all fibers or of fiber 0 alone;
-- `timed` is whether the time of the search was limited, and the note has the lines of the wanted outcomes to which no
-- answer leads
pub record IsOutcomesAnswer (json only_first : Bool) (t : Term) (limits : Limits) (bounds : Bounds) (timed : Bool)
    (wants : List Want) (note answer : List ℕ) (status : Status) : Type 0
  where
    pub found : OutcomeExploration
    pub shown : Exploration
    pub found_is : IsOutcomesOf (code_of (source_of t)) limits bounds timed found
    pub shown_is : IsShown only_first found shown
    pub shows : Shows json false wants shown answer
    pub status_is : status ≡ exploration_status wants shown
    pub note_is : note ≡ missing_of_exploration wants shown

-- the same of the outcomes and says of all fibers
pub record IsSaysAnswer (json : Bool) (t : Term) (limits : Limits) (bounds : Bounds) (timed : Bool) (wants : List Want)
    (note answer : List ℕ) (status : Status) : Type 0
  where
    pub found : Exploration
    pub found_is : IsSaysOf (code_of (source_of t)) limits bounds timed found
    pub shows : Shows json true wants found answer
    pub status_is : status ≡ exploration_status wants found
    pub note_is : note ≡ missing_of_exploration wants found
