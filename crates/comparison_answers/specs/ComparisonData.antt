-- Comparisons as JSON. The members of an object are in the order of their keys.
use Rattle.std.specs.Prelude.{◌≡◌, ℕ, List, codes, Some, Result, Ok, Err}
use Rattle.std.specs.List.{slice_get}
use Rattle.cell_registry.specs.declared.limits.RunError.{RunError}
use Rattle.text_io.specs.Schedule.{SpellsEntries}
use Rattle.scheduled_core.specs.declared.report.Report.{Report}
use Rattle.every_schedule.specs.declared.exploration.Answer.{Answer}
use Rattle.every_schedule.specs.declared.exploration.Exploration.{Exploration}
use Rattle.serde_json.specs.Data.{Data, boolean, string, object, no_members, member}
use Rattle.json_answers.specs.ReportData.{count, fault_data, report_data}
use Rattle.compared_ends.specs.declared.comparison.Comparison.{Comparison}
use Rattle.compared_ends.specs.declared.comparison.Extra.{Extra}
use Rattle.compared_ends.specs.declared.comparison.Extra.TheVariants as extra
use Rattle.comparison_answers.specs.ComparisonText.{verdict}

-- a report or a fault, and the text of its schedule
abbrev pub end_data : List ℕ → Result Report RunError → Data
end_data schedule (Ok r) = object (member (codes "report") (report_data r.fibers)
    (member (codes "schedule") (string schedule) no_members))
end_data schedule (Err e) = object (member (codes "fault") (fault_data e)
    (member (codes "schedule") (string schedule) no_members))

-- the ends that only one program has: an answer that shows one, or a word
abbrev pub IsExtraData : List Answer → Extra → Data → Type 0
IsExtraData answers (extra.Answer i) d = (a : Answer) × (schedule : List ℕ) × (slice_get answers i ≡ Some a) ×
    SpellsEntries schedule a.schedule × (d ≡ end_data schedule a.end)
IsExtraData answers extra.Nothing d = d ≡ string (codes "nothing")
IsExtraData answers extra.Undecided d = d ≡ string (codes "undecided")

-- whether all of a program was explored, the ends that only it has, and the number of worlds found
abbrev pub side_data : Exploration → Data → Data
side_data e alone = object (member (codes "alone") alone (member (codes "complete") (boolean e.complete)
    (member (codes "worlds") (count e.worlds) no_members)))

pub record IsComparisonData (it : Comparison) (d : Data) : Type 0 where
  pub first : Data
  pub second : Data
  pub data_is : d ≡ object (member (codes "answer") (string (codes "comparison"))
      (member (codes "first") (side_data it.first first) (member (codes "second") (side_data it.second second)
      (member (codes "verdict") (string (verdict it.first_extra it.second_extra)) no_members))))
  pub first_is : IsExtraData it.first.answers it.first_extra first
  pub second_is : IsExtraData it.second.answers it.second_extra second

-- the refusal of one of two texts, under the name of its side
abbrev pub refused_data : List ℕ → Data → Data
refused_data side refusal = object (member (codes "answer") (string (codes "refused")) (member side refusal no_members))
