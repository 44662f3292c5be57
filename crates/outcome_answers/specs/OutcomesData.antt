-- Outcomes as JSON, with the says of the fibers or without marks. The members of an object are in the order of their
-- keys.
use Rattle.std.specs.Prelude.{◌≡◌, ◌+◌, ℕ, Bool, true, false, not, List, [], ◌∷◌, ◌++◌, codes, Option, Result, Ok, Err}
use Rattle.std.specs.List.{filter}
use Rattle.effect_term.specs.declared.reply.Outcome.{Outcome}
use Rattle.cell_registry.specs.declared.limits.RunError.{RunError}
use Rattle.text_io.specs.Schedule.{SpellsEntries}
use Rattle.scheduled_core.specs.declared.report.FiberReport.{FiberReport}
use Rattle.scheduled_core.specs.declared.report.Report.{Report}
use Rattle.every_schedule.specs.declared.exploration.Answer.{Answer}
use Rattle.every_schedule.specs.declared.exploration.Exploration.{Exploration}
use Rattle.exploration_text.specs.declared.wants.Want.{Want}
use Rattle.exploration_text.specs.ExplorationText.{is_listed_so}
use Rattle.serde_json.specs.Data.{Data, boolean, string, array, object, Items, no_items, item, no_members, member}
use Rattle.serde_json.specs.View.{items_of}
use Rattle.json_answers.specs.ReportData.{count, fault_data, outcome_data, report_data}

-- the fiber of this number, with its outcome
abbrev pub bare_fiber : ℕ → Option Outcome → Data
bare_fiber n outcome =
    object (member (codes "fiber") (count n) (member (codes "outcome") (outcome_data outcome) no_members))

-- fibers with ascending numbers from `n`
abbrev pub bare_items : ℕ → List FiberReport → Items
bare_items n [] = no_items
bare_items n (f ∷ fibers) = item (bare_fiber n f.outcome) (bare_items (n + 1) fibers)

-- a report without marks, from fiber 0 on
abbrev pub bare_report : List FiberReport → Data
bare_report fibers = object (member (codes "answer") (string (codes "report"))
    (member (codes "fibers") (array (bare_items 0 fibers)) no_members))

-- a report: with `says`, as a replay writes it, else without marks
abbrev pub shown_report : (says : Bool) → List FiberReport → Data
shown_report true fibers = report_data fibers
shown_report false fibers = bare_report fibers

-- a report or a fault, the text of its schedule, and whether it is wanted
abbrev pub shown_found : (says : Bool) → List ℕ → Bool → Result Report RunError → Data
shown_found says schedule wanted (Ok r) = object (member (codes "report") (shown_report says r.fibers)
    (member (codes "schedule") (string schedule) (member (codes "wanted") (boolean wanted) no_members)))
shown_found says schedule wanted (Err e) = object (member (codes "fault") (fault_data e)
    (member (codes "schedule") (string schedule) (member (codes "wanted") (boolean wanted) no_members)))

-- an answer that is listed as not wanted, or among the others
pub record IsShownData (says unwanted : Bool) (a : Answer) (d : Data) : Type 0 where
  pub schedule : List ℕ
  pub spelled : SpellsEntries schedule a.schedule
  pub data_is : d ≡ shown_found says schedule (not unwanted) a.end

-- answers, one after another
abbrev pub AreShownData : (says unwanted : Bool) → List Answer → List Data → Type 0
AreShownData says unwanted [] ds = ds ≡ []
AreShownData says unwanted (a ∷ answers) ds = (d : Data) × (behind : List Data) × (ds ≡ d ∷ behind) ×
    IsShownData says unwanted a d × AreShownData says unwanted answers behind

-- the answers that are listed as not wanted, or the other answers
abbrev pub IsShownPart : (says unwanted : Bool) → List Want → List Answer → List Data → Type 0
IsShownPart says unwanted wants answers ds =
    AreShownData says unwanted (filter (λ a. is_listed_so unwanted wants a) answers) ds

-- which marks reports have, as `--marks` spells it
abbrev pub marks_word : (says : Bool) → List ℕ
marks_word true = codes "say"
marks_word false = codes "none"

-- answers, whether they are all, which marks they have, and the number of worlds found; if there can be more answers:
-- the number of bytes counted, and whether the time was over
abbrev pub outcomes_data : (says : Bool) → Items → (complete halted : Bool) → (worlds bytes : ℕ) → Data
outcomes_data says answers true halted worlds bytes = object (member (codes "answer") (string (codes "exploration"))
    (member (codes "answers") (array answers) (member (codes "complete") (boolean true)
    (member (codes "marks") (string (marks_word says)) (member (codes "worlds") (count worlds) no_members)))))
outcomes_data says answers false false worlds bytes = object (member (codes "answer") (string (codes "exploration"))
    (member (codes "answers") (array answers) (member (codes "bytes") (count bytes)
    (member (codes "complete") (boolean false) (member (codes "marks") (string (marks_word says))
    (member (codes "worlds") (count worlds) no_members))))))
outcomes_data says answers false true worlds bytes = object (member (codes "answer") (string (codes "exploration"))
    (member (codes "answers") (array answers) (member (codes "bytes") (count bytes)
    (member (codes "complete") (boolean false) (member (codes "marks") (string (marks_word says))
    (member (codes "out_of_time") (boolean true) (member (codes "worlds") (count worlds) no_members)))))))

-- an exploration, with the answers that are not wanted before the others; with `says` its reports have their marks,
-- else none
pub record IsOutcomesData (says : Bool) (wants : List Want) (e : Exploration) (d : Data) : Type 0 where
  pub unwanted : List Data
  pub others : List Data
  pub data_is : d ≡ outcomes_data says (items_of (unwanted ++ others)) e.complete e.halted e.worlds e.bytes
  pub unwanted_is : IsShownPart says true wants e.answers unwanted
  pub others_are : IsShownPart says false wants e.answers others
