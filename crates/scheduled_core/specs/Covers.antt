-- Which lists of reports and faults contain all that schedules can lead to.
use Rattle.std.specs.Prelude.{◌≡◌, ℕ, List, Some, Result, Ok, Err}
use Rattle.std.specs.List.{slice_get}
use Rattle.derived_ops.specs.Tree.{Tree}
use Rattle.cell_registry.specs.declared.limits.Limits.{Limits}
use Rattle.cell_registry.specs.declared.limits.RunError.{RunError}
use Rattle.scheduled_core.specs.declared.report.Report.{Report}
use Rattle.scheduled_core.specs.Core.{World, core, reported}
use Rattle.scheduled_core.specs.Finals.{IsSettled}

-- a report of the core, or its fault
abbrev pub End : Type 0
End = Result Report RunError

-- one of these has this end; end_of gives the end of each
abbrev pub IsAmong : {A : Type 0} → (A → End) → List A → End → Type 0
IsAmong end_of all end = (i : ℕ) × (a : _) × (slice_get all i ≡ Some a) × (end_of a ≡ end)

-- the end of a schedule is among these if it is the report of a settled world, or a fault
abbrev pub IsAccounted : {A : Type 0} → (A → End) → Limits → List A → Result World RunError → Type 0
IsAccounted end_of k all (Ok w) = IsSettled k w → IsAmong end_of all (reported (Ok w))
IsAccounted end_of k all (Err e) = IsAmong end_of all (Err e)

-- the end of every schedule is among these, if it is the report of a settled world, or a fault
abbrev pub CoverAll : {A : Type 0} → (A → End) → Tree → Limits → List A → Type 0
CoverAll end_of code k all = (schedule : List ℕ) → IsAccounted end_of k all (core code k schedule)

-- every list of ends that contains all that schedules can lead to contains the report
abbrev pub IsInEachCover : Tree → Limits → Report → Type 0
IsInEachCover code k report =
    (ends : List End) → CoverAll (λ (end : End). end) code k ends → IsAmong (λ (end : End). end) ends (Ok report)
