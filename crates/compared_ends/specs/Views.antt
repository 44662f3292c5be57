-- The view of an end when two programs are compared.
use Rattle.std.specs.Prelude.{ℤ, List, [], ◌∷◌, Option, Some, None, Result, Ok, Err, map}
use Rattle.std.specs.List.{filter_map}
use Rattle.effect_term.specs.declared.reply.Outcome.{Outcome}
use Rattle.fiber_frames.specs.declared.mark.Mark.{Mark}
use Rattle.fiber_frames.specs.declared.mark.Mark.TheVariants.{Say}
use Rattle.cell_registry.specs.declared.limits.RunError.{RunError}
use Rattle.scheduled_core.specs.declared.report.FiberReport.{FiberReport}
use Rattle.scheduled_core.specs.declared.report.Report.{Report}
use Rattle.compared_ends.specs.declared.basis.Basis.{Basis}
use Rattle.compared_ends.specs.declared.basis.Basis.TheVariants.{FirstFiber, AllFibers}

-- the view of a report: outcomes of fibers, `None` for one that hasn't ended, and values that were said, in order
pub record View : Type 0 where
  pub outcomes : List (Option Outcome)
  pub said : List ℤ

-- the values that a fiber said, from its marks
abbrev pub value_said : Mark → Option ℤ
value_said (Say v) = Some v
value_said _ = None

abbrev pub said : List Mark → List ℤ
said marks = filter_map value_said marks

-- the outcome of a fiber, and what it said
abbrev pub fiber_view : FiberReport → View
fiber_view f = record { outcomes = f.outcome ∷ []; said = said f.marks }

-- the same of fiber 0
abbrev pub first_view : List FiberReport → View
first_view [] = record { outcomes = []; said = [] }
first_view (f ∷ fibers) = fiber_view f

-- the outcome of each fiber
abbrev pub outcome_seen : FiberReport → Option Outcome
outcome_seen f = f.outcome

abbrev pub outcomes_view : List FiberReport → View
outcomes_view fibers = record { outcomes = map outcome_seen fibers; said = [] }

abbrev pub view : Basis → List FiberReport → View
view FirstFiber fibers = first_view fibers
view AllFibers fibers = outcomes_view fibers

-- the view of an end: of a report its view by the basis, of a fault the whole fault
abbrev pub viewed : Basis → Result Report RunError → Result View RunError
viewed basis (Ok r) = Ok (view basis r.fibers)
viewed basis (Err e) = Err e
