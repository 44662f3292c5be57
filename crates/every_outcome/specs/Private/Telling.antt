-- The answers of a search, with their reports and faults.
use Rattle.std.specs.Prelude.{◌≡◌, ◌<◌, ℕ, Bool, true, List, length, Some, Result, Ok, Err}
use Rattle.std.specs.List.{slice_get}
use Rattle.cell_registry.specs.declared.limits.RunError.{RunError}
use Rattle.scheduled_core.specs.declared.report.Report.{Report}
use Rattle.world_search.specs.declared.answers.Answer.{Answer as Found}
use Rattle.world_search.specs.declared.landings.Landing.{Landing}
use Rattle.world_search.specs.declared.landings.Landing.TheVariants.{World, Fault}
use Rattle.every_schedule.specs.declared.exploration.Answer.{Answer}
use Rattle.every_outcome.specs.Places.{Kept, Place, report_at}
use Rattle.every_outcome.specs.Private.Reduced.{IsUnfolded}

-- there is a world, or a fault, of this number
abbrev pub IsWithin : Kept → Landing → Type 0
IsWithin k (World i) = i < length k.places
IsWithin k (Fault i) = i < length k.faults

module _ (says : Bool) where
  -- the end has the report of this world, or is this fault
  abbrev pub IsEnd : Kept → Landing → Result Report RunError → Type 0
  IsEnd k (World i) end = (p : Place) × (slice_get k.places i ≡ Some p) × (end ≡ Ok (report_at says p))
  IsEnd k (Fault i) end = (e : RunError) × (slice_get k.faults i ≡ Some e) × (end ≡ Err e)

  -- the answer has the report or the fault that was found, and a schedule with every move as an entry that leads there
  pub record IsTold (k : Kept) (first : Place) (found : Found) (answer : Answer) : Type 0 where
    pub schedule : IsUnfolded says true first found.schedule.items answer.schedule
    pub ends : IsEnd k found.end answer.end

  -- the answers are those that were found, in the same order
  pub record AreTold (k : Kept) (first : Place) (found : List Found) (answers : List Answer) : Type 0 where
    pub many : length answers ≡ length found
    pub each : (i : ℕ) (f : Found) (a : Answer) → slice_get found i ≡ Some f → slice_get answers i ≡ Some a →
        IsTold k first f a
