-- Explorations as JSON. The members of an object are in the order of their keys.
use Rattle.std.specs.Prelude.{◌≡◌, ℕ, Bool, true, false, not, List, [], ◌∷◌, ◌++◌, codes, Result, Ok, Err}
use Rattle.std.specs.List.{filter}
use Rattle.cell_registry.specs.declared.limits.RunError.{RunError}
use Rattle.text_io.specs.Schedule.{SpellsEntries}
use Rattle.scheduled_core.specs.declared.report.Report.{Report}
use Rattle.every_schedule.specs.declared.exploration.Answer.{Answer}
use Rattle.every_schedule.specs.declared.exploration.Exploration.{Exploration}
use Rattle.exploration_text.specs.declared.wants.Want.{Want}
use Rattle.exploration_text.specs.ExplorationText.{is_listed_so}
use Rattle.serde_json.specs.Data.{Data, boolean, string, array, object, Items, no_members, member}
use Rattle.serde_json.specs.View.{items_of}
use Rattle.json_answers.specs.ReportData.{count, fault_data, report_data}

-- a report or a fault, the text of its schedule, and whether it is wanted
abbrev pub found_data : List ℕ → Bool → Result Report RunError → Data
found_data schedule wanted (Ok r) = object (member (codes "report") (report_data r.fibers)
    (member (codes "schedule") (string schedule) (member (codes "wanted") (boolean wanted) no_members)))
found_data schedule wanted (Err e) = object (member (codes "fault") (fault_data e)
    (member (codes "schedule") (string schedule) (member (codes "wanted") (boolean wanted) no_members)))

-- an answer of an exploration; `unwanted` is whether the answer is listed as not wanted
pub record IsAnswerData (unwanted : Bool) (a : Answer) (d : Data) : Type 0 where
  pub schedule : List ℕ
  pub spelled : SpellsEntries schedule a.schedule
  pub data_is : d ≡ found_data schedule (not unwanted) a.end

-- answers, one after another
abbrev pub AreAnswersData : Bool → List Answer → List Data → Type 0
AreAnswersData unwanted [] ds = ds ≡ []
AreAnswersData unwanted (a ∷ answers) ds = (d : Data) × (behind : List Data) × (ds ≡ d ∷ behind) ×
    IsAnswerData unwanted a d × AreAnswersData unwanted answers behind

-- the answers that are listed as not wanted, or the others
abbrev pub IsPartData : Bool → List Want → List Answer → List Data → Type 0
IsPartData unwanted wants answers ds = AreAnswersData unwanted (filter (λ a. is_listed_so unwanted wants a) answers) ds

-- answers, whether they are all, and the number of worlds; if they may not be all, also the number of bytes, and
-- whether the time was over
abbrev pub exploration_data : Items → (complete halted : Bool) → (worlds bytes : ℕ) → Data
exploration_data answers true halted worlds bytes = object (member (codes "answer") (string (codes "exploration"))
    (member (codes "answers") (array answers) (member (codes "complete") (boolean true)
    (member (codes "worlds") (count worlds) no_members))))
exploration_data answers false false worlds bytes = object (member (codes "answer") (string (codes "exploration"))
    (member (codes "answers") (array answers) (member (codes "bytes") (count bytes)
    (member (codes "complete") (boolean false) (member (codes "worlds") (count worlds) no_members)))))
exploration_data answers false true worlds bytes = object (member (codes "answer") (string (codes "exploration"))
    (member (codes "answers") (array answers) (member (codes "bytes") (count bytes)
    (member (codes "complete") (boolean false) (member (codes "out_of_time") (boolean true)
    (member (codes "worlds") (count worlds) no_members))))))

-- an exploration, with the answers that are not wanted before the others
pub record IsExplorationData (wants : List Want) (e : Exploration) (d : Data) : Type 0 where
  pub unwanted : List Data
  pub others : List Data
  pub data_is : d ≡ exploration_data (items_of (unwanted ++ others)) e.complete e.halted e.worlds e.bytes
  pub unwanted_is : IsPartData true wants e.answers unwanted
  pub others_are : IsPartData false wants e.answers others
