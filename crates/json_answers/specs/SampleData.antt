-- Samples as JSON. The members of an object are in the order of their keys.
use Rattle.std.specs.Prelude.{◌≡◌, ℕ, Bool, not, List, [], ◌∷◌, codes, Result, Ok, Err}
use Rattle.cell_registry.specs.declared.limits.RunError.{RunError}
use Rattle.text_io.specs.Schedule.{SpellsEntries}
use Rattle.scheduled_core.specs.declared.report.Report.{Report}
use Rattle.sampled_schedules.specs.declared.comings.Coming.{Coming}
use Rattle.sampled_schedules.specs.declared.comings.Sample.{Sample}
use Rattle.exploration_text.specs.declared.wants.Want.{Want}
use Rattle.exploration_text.specs.SampleText.{is_unwanted}
use Rattle.serde_json.specs.Data.{Data, boolean, string, array, object, Items, no_members, member}
use Rattle.serde_json.specs.View.{items_of}
use Rattle.json_answers.specs.ReportData.{count, fault_data, report_data}

-- a report or a fault, the number of its schedules, whether each of them was cut short, the text of the first, and
-- whether the end is wanted
abbrev pub came_data : ℕ → Bool → List ℕ → Bool → Result Report RunError → Data
came_data times cut schedule wanted (Ok r) = object (member (codes "came") (count times) (member (codes "cut") (boolean cut)
    (member (codes "report") (report_data r.fibers) (member (codes "schedule") (string schedule)
    (member (codes "wanted") (boolean wanted) no_members)))))
came_data times cut schedule wanted (Err e) = object (member (codes "came") (count times) (member (codes "cut") (boolean cut)
    (member (codes "fault") (fault_data e) (member (codes "schedule") (string schedule)
    (member (codes "wanted") (boolean wanted) no_members)))))

-- an end of schedules
pub record IsComingData (wants : List Want) (c : Coming) (d : Data) : Type 0 where
  pub schedule : List ℕ
  pub spelled : SpellsEntries schedule c.answer.schedule
  pub data_is : d ≡ came_data c.times c.cut schedule (not (is_unwanted wants c)) c.answer.end

-- the ends of schedules, one after another
abbrev pub AreComingsData : List Want → List Coming → List Data → Type 0
AreComingsData wants [] ds = ds ≡ []
AreComingsData wants (c ∷ comings) ds = (d : Data) × (behind : List Data) × (ds ≡ d ∷ behind) ×
    IsComingData wants c d × AreComingsData wants comings behind

-- the ends of `times` schedules that were drawn by this seed
abbrev pub sample_data : Items → ℕ → ℕ → Data
sample_data answers seed times = object (member (codes "answer") (string (codes "sample"))
    (member (codes "answers") (array answers) (member (codes "seed") (count seed)
    (member (codes "times") (count times) no_members))))

-- a sample, with its ends in the order in which they came first
pub record IsSampleData (wants : List Want) (seed : ℕ) (s : Sample) (d : Data) : Type 0 where
  pub comings : List Data
  pub data_is : d ≡ sample_data (items_of comings) seed s.schedules
  pub comings_are : AreComingsData wants s.comings comings
