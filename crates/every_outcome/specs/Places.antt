-- Worlds as a search of outcomes keeps them: without marks, the numbers of masks, the counts of changes, and the notes
-- of who was joined. A search with `says` keeps the marks of two kinds.
use Rattle.std.specs.Prelude.{ℕ, zero, suc, Bool, true, false, ◌&&◌, List, Result, Ok, Err, map}
use Rattle.std.specs.List.{filter}
use Rattle.derived_ops.specs.Tree.{Tree}
use Rattle.fiber_frames.specs.declared.mark.Mark.{Mark}
use Rattle.fiber_frames.specs.declared.mark.Mark.TheVariants as mark
use Rattle.fiber_frames.specs.Fiber.{Fiber, outcome_of}
use Rattle.fiber_frames.specs.Unmarked.{unmarked}
use Rattle.cell_registry.specs.declared.limits.Limits.{Limits}
use Rattle.cell_registry.specs.declared.limits.RunError.{RunError}
use Rattle.cell_registry.specs.Cells.{without_counts, without_waits}
use Rattle.scheduled_core.specs.declared.report.FiberReport.{FiberReport}
use Rattle.scheduled_core.specs.declared.report.Report.{Report}
use Rattle.scheduled_core.specs.Core.{World, entered, first_world}
pub use Rattle.every_schedule.specs.Places.{Place}

-- *a say*: the mark of a value that the fiber said, or of a code that was dropped. Neither has the number of a mask
abbrev pub is_say : Mark → Bool
is_say (mark.Say v) = true
is_say (mark.Dropped c) = true
is_say _ = false

-- the marks that are kept: none, or with `says` each say
abbrev pub keeps_mark : Bool → Mark → Bool
keeps_mark says m = is_say m && says

abbrev pub kept_marks : Bool → List Mark → List Mark
kept_marks says ms = filter (keeps_mark says) ms

abbrev pub marks_of : Fiber → List Mark
marks_of g = g.marks

-- the report of a fiber with the marks that are kept
abbrev pub kept_report : Bool → Fiber → FiberReport
kept_report says g = record { outcome = outcome_of g; marks = kept_marks says g.marks }

-- the fiber with the marks that are kept, and without the numbers of masks
abbrev pub shown : Bool → Fiber → Fiber
shown says g = record (unmarked g) { marks = kept_marks says g.marks }

-- the search with the number 0 keeps no marks, and the others keep says
abbrev pub with_says : ℕ → Bool
with_says zero = false
with_says (suc n) = true

module _ (says : Bool) where
  -- the world without the numbers of masks, counts and notes, and with the marks that are kept
  abbrev pub unmarked_world : World → World
  unmarked_world w = record { fibers = map (shown says) w.fibers; cells = without_counts (without_waits w.cells) }

  abbrev pub unmarked_place : Place → Place
  unmarked_place p = record { limits = p.limits; world = unmarked_world p.world }

  abbrev pub unmarked_after : Limits → Result World RunError → Result Place RunError
  unmarked_after k (Ok w) = Ok record { limits = k; world = unmarked_world w }
  unmarked_after k (Err e) = Err e

  -- the place of a program before the first move
  abbrev pub first_place : Tree → Limits → Place
  first_place code k = record { limits = k; world = unmarked_world (first_world code k) }

  -- the result of a fiber's entry, as the search keeps it
  abbrev pub stepped : Place → ℕ → Result Place RunError
  stepped p f = unmarked_after p.limits (entered p.limits (Ok p.world) f)

  -- the report of each fiber, with the marks that are kept
  abbrev pub report_at : Place → Report
  report_at p = record { fibers = map (kept_report says) p.world.fibers }

-- the worlds and faults that are kept, and the number of bytes that are counted for them
pub record Kept : Type 0 where
  pub places : List Place
  pub faults : List RunError
  pub bytes : ℕ
