-- The outcomes of fiber 0 that are wanted, and the answers that aren't.
use Rattle.std.specs.Prelude.{ℕ, Bool, true, false, not, List, [], ◌∷◌, Option, Some, None, Result, Ok, Err}
use Rattle.std.specs.List.{list_any}
use Rattle.std.specs.Ordering.{int_eq}
use Rattle.effect_term.specs.declared.reply.Outcome.{Outcome}
use Rattle.effect_term.specs.declared.reply.Outcome.TheVariants.{Succeeded, Errored, Canceled}
use Rattle.effect_term.specs.Outcomes.{OutcomeFits}
use Rattle.cell_registry.specs.declared.limits.RunError.{RunError}
use Rattle.scheduled_core.specs.declared.report.FiberReport.{FiberReport}
use Rattle.scheduled_core.specs.declared.report.Report.{Report}
use Rattle.outcome_trace.specs.ReportText.{outcome_text}
use Rattle.every_schedule.specs.declared.exploration.Answer.{Answer}
use Rattle.exploration_text.specs.declared.wants.Want.{Want}
use Rattle.exploration_text.specs.declared.wants.Want.TheVariants.{Ended, Unended}

-- the wanted outcome, as a report has it
abbrev pub outcome_wanted : Want → Option Outcome
outcome_wanted (Ended outcome) = Some outcome
outcome_wanted Unended = None

-- the wanted outcome, as a report spells it
abbrev pub want_text : Want → List ℕ
want_text want = outcome_text (outcome_wanted want)

-- the value or code of the wanted outcome is in its range
abbrev pub IsInRange : Want → Type 0
IsInRange (Ended outcome) = OutcomeFits outcome
IsInRange Unended = Unit {0}

-- whether two outcomes are equal
abbrev pub is_outcome : Outcome → Outcome → Bool
is_outcome (Succeeded v) (Succeeded w) = int_eq v w
is_outcome (Errored c) (Errored d) = int_eq c d
is_outcome Canceled Canceled = true
is_outcome _ _ = false

-- whether a fiber with this outcome is as wanted
abbrev pub is_met : Want → Option Outcome → Bool
is_met (Ended wanted) (Some outcome) = is_outcome wanted outcome
is_met Unended None = true
is_met _ _ = false

-- the outcome of fiber 0, if it has ended
abbrev pub first_outcome : List FiberReport → Option Outcome
first_outcome [] = None
first_outcome (f ∷ fibers) = f.outcome

-- Whether an end is a failure: a fault, or, if outcomes are wanted, a report in which fiber 0 has another outcome.
abbrev pub is_failure : List Want → Result Report RunError → Bool
is_failure wants (Err e) = true
is_failure [] (Ok r) = false
is_failure (w ∷ wants) (Ok r) = not (list_any (λ want. is_met want (first_outcome r.fibers)) (w ∷ wants))

-- whether an answer is listed as not wanted; if no outcome is wanted, none is
abbrev pub is_unwanted : List Want → Answer → Bool
is_unwanted [] answer = false
is_unwanted (w ∷ wants) answer = is_failure (w ∷ wants) answer.end
