-- The answer in JSON to a text whose program is explored, or whose schedules are sampled.
use Rattle.std.specs.Prelude.{◌≡◌, ℕ, Bool, List, Ok}
use Rattle.cell_registry.specs.declared.limits.Limits.{Limits}
use Rattle.derived_ops.specs.Expansion.{code_of}
use Rattle.derived_ops.specs.Reading.{source_of}
use Rattle.effect_term.specs.declared.term.Term.{Term}
use Rattle.effect_term.specs.Programs.{IsProgram}
use Rattle.term_parse.specs.Atoms.{atoms_of}
use Rattle.term_parse.specs.Reading.{reading}
use Rattle.text_io.specs.declared.status.Status.{Status}
use Rattle.outcome_trace.specs.Answers.{IsProgramAnswer}
use Rattle.world_search.specs.declared.answers.Bounds.{Bounds}
use Rattle.every_schedule.specs.declared.exploration.Exploration.{Exploration}
use Rattle.exploration_text.specs.declared.wants.Want.{Want}
use Rattle.exploration_text.specs.ExplorationText.{exploration_status}
use Rattle.exploration_text.specs.ExploreAnswers.{IsExplorationOf}
use Rattle.sampled_schedules.specs.declared.comings.Sample.{Sample}
use Rattle.exploration_text.specs.SampleAnswers.{IsSampleAt}
use Rattle.exploration_text.specs.Missing.{missing_of_exploration, missing_of_sample}
use Rattle.exploration_text.specs.SampleText.{sample_status}
use Rattle.serde_json.specs.Data.{Data}
use Rattle.json_answers.specs.Answers.{IsJsonRefusal}
use Rattle.json_answers.specs.ExplorationData.{IsExplorationData}
use Rattle.json_answers.specs.ReportData.{line_of_data}
use Rattle.json_answers.specs.SampleData.{IsSampleData}

-- the value and the status of an exploration of the program; `timed` is whether its time was limited
pub record IsJsonExplored (t : Term) (limits : Limits) (bounds : Bounds) (timed : Bool) (wants : List Want)
    (answer : List ℕ) (status : Status) : Type 0
  where
    pub exploration : Exploration
    pub explored : IsExplorationOf (code_of (source_of t)) limits bounds timed exploration
    pub value : Data
    pub value_is : IsExplorationData wants exploration value
    pub text_is : answer ≡ line_of_data value
    pub status_is : status ≡ exploration_status wants exploration

-- the value and the status of an exploration, and the lines of the wanted outcomes that no answer has
pub record IsNotedJsonExplored (t : Term) (limits : Limits) (bounds : Bounds) (timed : Bool) (wants : List Want)
    (note answer : List ℕ) (status : Status) : Type 0
  where
    pub explored : IsJsonExplored t limits bounds timed wants answer status
    pub note_is : note ≡ missing_of_exploration wants explored.exploration

-- the answer of `explore` under limits: a refusal, or the exploration of the program that the text spells
abbrev pub IsJsonExplore : Limits → Bounds → (timed : Bool) → List Want → List ℕ → List ℕ → Status → Type 0
IsJsonExplore limits bounds timed wants =
    IsProgramAnswer IsJsonRefusal (λ t. IsJsonExplored t limits bounds timed wants)

-- the value and the status of a sample of the program's schedules
pub record IsJsonSampled (t : Term) (limits : Limits) (seed times entries : ℕ) (wants : List Want) (answer : List ℕ)
    (status : Status) : Type 0
  where
    pub sample : Sample
    pub sampled : IsSampleAt (code_of (source_of t)) limits times entries sample
    pub value : Data
    pub value_is : IsSampleData wants seed sample value
    pub text_is : answer ≡ line_of_data value
    pub status_is : status ≡ sample_status wants sample

-- the value and the status of a sample, and the lines of the wanted outcomes that no answer has
pub record IsNotedJsonSample (t : Term) (limits : Limits) (seed times entries : ℕ) (wants : List Want)
    (note answer : List ℕ) (status : Status) : Type 0
  where
    pub sampled : IsJsonSampled t limits seed times entries wants answer status
    pub note_is : note ≡ missing_of_sample wants sampled.sample

-- the answer of `sample` under limits: a refusal, or a sample of the schedules of the program that the text spells
pub data IsJsonSample (limits : Limits) (seed times entries : ℕ) (wants : List Want)
    : List ℕ → List ℕ → Status → Type 0
  where
    unsampled : (text answer : List ℕ) (status : Status) → IsJsonRefusal text answer status →
        IsJsonSample limits seed times entries wants text answer status
    samples : (text answer : List ℕ) (status : Status) (t : Term) → reading text ≡ Ok (atoms_of t) → IsProgram t →
        IsJsonSampled t limits seed times entries wants answer status →
        IsJsonSample limits seed times entries wants text answer status
