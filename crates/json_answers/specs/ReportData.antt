-- Reports and faults of a run as JSON. The members of an object are in the order of their keys.
use Rattle.std.specs.Prelude.{◌+◌, ℕ, Option, Some, None, List, [], ◌∷◌, ◌++◌, codes}
use Rattle.cell_registry.specs.declared.limits.Band.{Band}
use Rattle.cell_registry.specs.declared.limits.Band.TheVariants.{Fibers, Refs, Deferreds}
use Rattle.cell_registry.specs.declared.limits.RunError.{RunError}
use Rattle.cell_registry.specs.declared.limits.RunError.TheVariants as run
use Rattle.effect_term.specs.declared.reply.Outcome.{Outcome}
use Rattle.effect_term.specs.declared.reply.Outcome.TheVariants.{Succeeded, Errored, Canceled}
use Rattle.fiber_frames.specs.declared.mark.Mark.{Mark}
use Rattle.fiber_frames.specs.declared.mark.Mark.TheVariants.{Say, Enter, Leave, PollIn, PollOut, Cut, Acquired}
use Rattle.fiber_frames.specs.declared.mark.Mark.TheVariants.{Releasing, Released, Dropped}
use Rattle.scheduled_core.specs.declared.report.FiberReport.{FiberReport}
use Rattle.serde_json.specs.Data.{Data, number, string, array, object, Items, no_items, item}
use Rattle.serde_json.specs.Data.{no_members, member, unsigned}
use Rattle.serde_json.specs.Find.{of_integer}
use Rattle.serde_json.specs.Written.{compact_text}

-- an object with one member
abbrev pub named : List ℕ → Data → Data
named key value = object (member key value no_members)

-- a number below 2^64
abbrev pub count : ℕ → Data
count n = number (unsigned n)

-- a mark, with its value, its code or the number of its mask
abbrev pub mark_data : Mark → Data
mark_data (Say v) = named (codes "say") (number (of_integer v))
mark_data (Enter m) = named (codes "enter") (count m)
mark_data (Leave m) = named (codes "leave") (count m)
mark_data (PollIn m) = named (codes "in") (count m)
mark_data (PollOut m) = named (codes "out") (count m)
mark_data Cut = string (codes "cut")
mark_data (Acquired m) = named (codes "acquired") (count m)
mark_data (Releasing m) = named (codes "releasing") (count m)
mark_data (Released m) = named (codes "released") (count m)
mark_data (Dropped c) = named (codes "dropped") (number (of_integer c))

abbrev pub marks_items : List Mark → Items
marks_items [] = no_items
marks_items (m ∷ marks) = item (mark_data m) (marks_items marks)

-- the outcome of a fiber, or `unended`
abbrev pub outcome_data : Option Outcome → Data
outcome_data (Some (Succeeded v)) = named (codes "succeeded") (number (of_integer v))
outcome_data (Some (Errored c)) = named (codes "errored") (number (of_integer c))
outcome_data (Some Canceled) = string (codes "canceled")
outcome_data None = string (codes "unended")

-- the value of the fiber of this number
abbrev pub fiber_data : ℕ → FiberReport → Data
fiber_data n f = object (member (codes "fiber") (count n) (member (codes "marks") (array (marks_items f.marks))
    (member (codes "outcome") (outcome_data f.outcome) no_members)))

-- fibers, numbered from n on
abbrev pub fibers_items : ℕ → List FiberReport → Items
fibers_items n [] = no_items
fibers_items n (f ∷ fibers) = item (fiber_data n f) (fibers_items (n + 1) fibers)

-- a report, from fiber 0 on
abbrev pub report_data : List FiberReport → Data
report_data fibers = object (member (codes "answer") (string (codes "report"))
    (member (codes "fibers") (array (fibers_items 0 fibers)) no_members))

abbrev pub band_word : Band → List ℕ
band_word Fibers = codes "fibers"
band_word Refs = codes "refs"
band_word Deferreds = codes "deferreds"

-- a fault of a run, with its name and its number
abbrev pub fault_data : RunError → Data
fault_data (run.Full band n) = object (member (codes "answer") (string (codes "fault"))
    (member (codes "band") (string (band_word band)) (member (codes "limit") (count n)
    (member (codes "name") (string (codes "Full")) (member (codes "number") (count 18) no_members)))))
fault_data (run.Spent f) = object (member (codes "answer") (string (codes "fault")) (member (codes "fiber") (count f)
    (member (codes "name") (string (codes "Spent")) (member (codes "number") (count 19) no_members))))
fault_data run.NoMemory = object (member (codes "answer") (string (codes "fault"))
    (member (codes "name") (string (codes "NoMemory")) (member (codes "number") (count 20) no_members)))
fault_data (run.Lost f) = object (member (codes "answer") (string (codes "fault")) (member (codes "fiber") (count f)
    (member (codes "name") (string (codes "Lost")) (member (codes "number") (count 21) no_members))))
fault_data run.NoWorker = object (member (codes "answer") (string (codes "fault"))
    (member (codes "name") (string (codes "NoWorker")) (member (codes "number") (count 22) no_members)))

-- the text of a value without spaces, and a line feed
abbrev pub line_of_data : Data → List ℕ
line_of_data d = compact_text d ++ 10 ∷ []
