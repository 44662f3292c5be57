-- A finding as JSON, and the answer in JSON of a search for the first finding. The members of an object are in the
-- order of their keys.
use Rattle.std.specs.Prelude.{◌≡◌, ◌⊎◌, ℕ, Bool, true, false, List, [], codes, Result, Ok, Err}
use Rattle.cell_registry.specs.declared.limits.Limits.{Limits}
use Rattle.cell_registry.specs.declared.limits.RunError.{RunError}
use Rattle.derived_ops.specs.Expansion.{code_of}
use Rattle.derived_ops.specs.Reading.{source_of}
use Rattle.effect_term.specs.declared.term.Term.{Term}
use Rattle.text_io.specs.declared.status.Status.{Status}
use Rattle.text_io.specs.declared.status.Status.TheVariants as ends
use Rattle.text_io.specs.Schedule.{SpellsEntries}
use Rattle.scheduled_core.specs.declared.report.Report.{Report}
use Rattle.world_search.specs.declared.answers.Bounds.{Bounds}
use Rattle.exploration_text.specs.declared.findings.Finding.{Finding}
use Rattle.exploration_text.specs.declared.wants.Want.{Want}
use Rattle.exploration_text.specs.ExplorationText.{has_failure}
use Rattle.exploration_text.specs.Findings.{IsFinding}
use Rattle.exploration_text.specs.Missing.{missing_of_exploration}
use Rattle.serde_json.specs.Data.{Data, boolean, string, object, no_members, member}
use Rattle.json_answers.specs.FoundAnswers.{IsJsonExplored}
use Rattle.json_answers.specs.ReportData.{fault_data, line_of_data, report_data}

-- how a finding was found
abbrev pub source_name : Bool → List ℕ
source_name true = codes "random"
source_name false = codes "search"

-- a report or a fault, the text of its schedule, whether it is final, and how it was found
abbrev pub finding_data : List ℕ → (drawn last : Bool) → Result Report RunError → Data
finding_data schedule drawn last (Ok r) = object (member (codes "answer") (string (codes "finding"))
    (member (codes "final") (boolean last) (member (codes "found") (string (source_name drawn))
    (member (codes "report") (report_data r.fibers) (member (codes "schedule") (string schedule) no_members)))))
finding_data schedule drawn last (Err e) = object (member (codes "answer") (string (codes "finding"))
    (member (codes "fault") (fault_data e) (member (codes "final") (boolean last)
    (member (codes "found") (string (source_name drawn)) (member (codes "schedule") (string schedule) no_members)))))

pub record IsFindingData (f : Finding) (d : Data) : Type 0 where
  pub schedule : List ℕ
  pub spelled : SpellsEntries schedule f.answer.schedule
  pub data_is : d ≡ finding_data schedule f.drawn f.last f.answer.end

-- the value of a finding, on a line of its own
abbrev pub IsLineBehind : Finding → List ℕ → Type 0
IsLineBehind f text = (value : Data) × IsFindingData f value × (text ≡ line_of_data value)

-- the value of a finding, with the status `Errored`
pub record IsJsonFound (t : Term) (limits : Limits) (wants : List Want) (answer : List ℕ) (status : Status) : Type 0
  where
    pub finding : Finding
    pub found : IsFinding (code_of (source_of t)) limits wants finding
    pub value : Data
    pub value_is : IsFindingData finding value
    pub text_is : answer ≡ line_of_data value
    pub status_is : status ≡ ends.Errored

-- the value and the status of an exploration that lists no finding
pub record IsJsonUnfound (t : Term) (limits : Limits) (bounds : Bounds) (timed : Bool) (wants : List Want)
    (answer : List ℕ) (status : Status) : Type 0
  where
    pub explored : IsJsonExplored t limits bounds timed wants answer status
    pub none : has_failure wants explored.exploration.answers ≡ false

-- such a value and status, and the lines of the wanted outcomes that no schedule comes to
pub record IsNotedJsonUnfound (t : Term) (limits : Limits) (bounds : Bounds) (timed : Bool) (wants : List Want)
    (note answer : List ℕ) (status : Status) : Type 0
  where
    pub unfound : IsJsonUnfound t limits bounds timed wants answer status
    pub note_is : note ≡ missing_of_exploration wants unfound.explored.exploration

-- the answer to a program, with its note and its status: a finding, which has no note, or an exploration that lists no
-- finding
abbrev pub IsJsonFirstAnswer : Term → Limits → Bounds → (timed : Bool) → List Want → (note : List ℕ) → List ℕ →
    Status → Type 0
IsJsonFirstAnswer t limits bounds timed wants note answer status =
    (IsJsonFound t limits wants answer status × (note ≡ [])) ⊎
    IsNotedJsonUnfound t limits bounds timed wants note answer status
