-- Outcomes as they are written: an exploration whose reports have no marks, of all fibers or of fiber 0 alone.
use Rattle.std.specs.Prelude.{◌≡◌, ◌≢◌, ◌<◌, ℕ, Bool, true, false, List, [], map, take, Option, Some, Result, Ok, Err}
use Rattle.std.specs.List.{slice_get}
use Rattle.effect_term.specs.declared.reply.Outcome.{Outcome}
use Rattle.cell_registry.specs.declared.limits.RunError.{RunError}
use Rattle.scheduled_core.specs.declared.report.FiberReport.{FiberReport}
use Rattle.scheduled_core.specs.declared.report.Report.{Report}
use Rattle.every_schedule.specs.declared.exploration.Answer.{Answer}
use Rattle.every_schedule.specs.declared.exploration.Exploration.{Exploration}
use Rattle.every_schedule.specs.Explored.{IsListed, ListOnce}
use Rattle.every_outcome.specs.declared.outcomes.OutcomeAnswer.{OutcomeAnswer}
use Rattle.every_outcome.specs.declared.outcomes.OutcomeExploration.{OutcomeExploration}

-- the report of a fiber with this outcome and no marks
abbrev pub bare : Option Outcome → FiberReport
bare outcome = record { outcome = outcome; marks = [] }

-- the outcome of fiber 0 alone, or those of all fibers
abbrev pub shown_of : Bool → List (Option Outcome) → List (Option Outcome)
shown_of true outcomes = take 1 outcomes
shown_of false outcomes = outcomes

-- these outcomes as a report, or the fault
abbrev pub shown_end : Bool → Result (List (Option Outcome)) RunError → Result Report RunError
shown_end only_first (Ok outcomes) = Ok (record { fibers = map bare (shown_of only_first outcomes) })
shown_end only_first (Err e) = Err e

-- the written answer, below the same schedule
abbrev pub shown_answer : Bool → OutcomeAnswer → Answer
shown_answer only_first a = record { schedule = a.schedule; end = shown_end only_first a.end }

-- One answer is written for each outcome of fiber 0, and for each fault. Each answer has the outcome of fiber 0, or the
-- fault, of a written answer. Each written answer is the first with its end. No end is written twice.
pub record AreFirsts (answers : List OutcomeAnswer) (shown : List Answer) : Type 0 where
  pub covers : (i : ℕ) (a : OutcomeAnswer) → slice_get answers i ≡ Some a → IsListed shown (shown_end true a.end)
  pub among : (j : ℕ) (s : Answer) → slice_get shown j ≡ Some s →
      (i : ℕ) × (a : OutcomeAnswer) × (slice_get answers i ≡ Some a) × (s ≡ shown_answer true a) ×
      ((k : ℕ) (b : OutcomeAnswer) → k < i → slice_get answers k ≡ Some b → shown_end true b.end ≢ s.end)
  pub once : ListOnce shown

-- the written answers: one for each outcome of fiber 0, or all
abbrev pub AreShown : Bool → List OutcomeAnswer → List Answer → Type 0
AreShown true answers shown = AreFirsts answers shown
AreShown false answers shown = shown ≡ map (shown_answer false) answers

-- the written exploration; all but the answers is as it was found
pub record IsShown (only_first : Bool) (found : OutcomeExploration) (shown : Exploration) : Type 0 where
  pub answers : AreShown only_first found.answers.items shown.answers
  pub worlds : shown.worlds ≡ found.worlds
  pub bytes : shown.bytes ≡ found.bytes
  pub complete : shown.complete ≡ found.complete
  pub halted : shown.halted ≡ found.halted
