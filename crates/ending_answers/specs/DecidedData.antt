-- Decisions on fair schedules, as JSON. The members of an object are in the order of their keys.
use Rattle.std.specs.Prelude.{◌≡◌, ℕ, List, codes}
use Rattle.fair_ends.specs.declared.ending.Ending.{Ending}
use Rattle.fair_ends.specs.declared.ending.Ending.TheVariants as decided
use Rattle.text_io.specs.Schedule.{SpellsEntries}
use Rattle.serde_json.specs.Data.{Data, string, object, no_members, member}
use Rattle.json_answers.specs.ExplorationData.{IsExplorationData}
use Rattle.exploration_text.specs.declared.wants.Want.{Want}
use Rattle.ending_answers.specs.declared.decided.Decided.{Decided}

-- the texts of a cycle's schedules: of the entries that repeat, and of those before them
abbrev pub cycle_data : List ℕ → List ℕ → Data
cycle_data stem cycle =
    object (member (codes "again") (string cycle) (member (codes "first") (string stem) no_members))

-- a word, or a cycle that goes on for ever
abbrev pub IsEndingData : Ending → Data → Type 0
IsEndingData decided.Ends d = d ≡ string (codes "end")
IsEndingData (decided.Repeats c) d = (stem : List ℕ) × (cycle : List ℕ) × SpellsEntries stem c.stem.items ×
    SpellsEntries cycle c.cycle.items × (d ≡ cycle_data stem cycle)
IsEndingData decided.Undecided d = d ≡ string (codes "undecided")

-- the exploration, and the decision on the fair schedules
pub record IsDecidedData (wants : List Want) (it : Decided) (d : Data) : Type 0 where
  pub explored : Data
  pub ending : Data
  pub data_is : d ≡ object (member (codes "answer") (string (codes "fair schedules"))
      (member (codes "exploration") explored (member (codes "fair") ending no_members)))
  pub explored_is : IsExplorationData wants it.exploration explored
  pub ending_is : IsEndingData it.ending ending
