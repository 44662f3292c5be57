-- The reports that a program can have under every schedule and every count of changes: each with the outcomes of all
-- fibers and the marks that are kept, with `says` those of values that were said and codes that were dropped.
use Rattle.std.specs.Prelude.{◌≡◌, ℕ, Bool, ◌≤◌, ◌++◌, List, length, Result, Ok, Err, map}
use Rattle.std.specs.List.{fold}
use Rattle.derived_ops.specs.Tree.{Tree}
use Rattle.cell_registry.specs.declared.limits.Limits.{Limits}
use Rattle.cell_registry.specs.declared.limits.RunError.{RunError}
use Rattle.cell_registry.specs.declared.limits.RunError.TheVariants as run
use Rattle.scheduled_core.specs.declared.report.Report.{Report}
use Rattle.scheduled_core.specs.Core.{World, core, entered}
use Rattle.every_schedule.specs.declared.exploration.Answer.{Answer}
use Rattle.every_schedule.specs.Explored.{IsListed}
use Rattle.every_outcome.specs.Outcomes.{counted}
use Rattle.every_outcome.specs.Places.{kept_report}

module _ (says : Bool) where
  -- the outcomes of the fibers of a world, with the marks that are kept; or the fault
  abbrev pub reports : Result World RunError → Result Report RunError
  reports (Ok w) = Ok record { fibers = map (kept_report says) w.fibers }
  reports (Err e) = Err e

  -- Entries led to this end: this report, or this band whose numbers are used up. Nothing is said if a count is used
  -- up.
  abbrev pub AgreesOn : Result Report RunError → Result World RunError → Type 0
  AgreesOn end (Ok w) = reports (Ok w) ≡ end
  AgreesOn end (Err (run.Full band n)) = Err (run.Full band n) ≡ end
  AgreesOn end (Err e) = Unit {0}

  -- no further entries, under any count, change the report or use up the numbers of a band
  abbrev pub KeepsReport : Limits → World → Type 0
  KeepsReport k w = (count : ℕ) (more : List ℕ) → AgreesOn (reports (Ok w)) (fold (entered (counted k count)) (Ok w) more)

  -- the result of a schedule is listed if it is a world whose report stays, or a band whose numbers are used up
  abbrev pub IsReported : Limits → List Answer → Result World RunError → Type 0
  IsReported k answers (Ok w) = KeepsReport k w → IsListed answers (reports (Ok w))
  IsReported k answers (Err (run.Full band n)) = IsListed answers (Err (run.Full band n))
  IsReported k answers (Err e) = Unit {0}

  -- Under each count that is at least the number of its entries, the schedule of an answer leads to its end. No further
  -- entries, under any count, change this end.
  pub record Reaches (code : Tree) (k : Limits) (a : Answer) : Type 0 where
    pub leads : (count : ℕ) → length a.schedule ≤ count → reports (core code (counted k count) a.schedule) ≡ a.end
    pub stays : (count : ℕ) (more : List ℕ) → AgreesOn a.end (core code (counted k count) (a.schedule ++ more))
