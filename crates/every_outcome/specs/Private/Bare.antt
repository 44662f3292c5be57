-- Answers with the outcomes of their reports alone.
use Rattle.std.specs.Prelude.{List, Option, Result, Ok, Err, map}
use Rattle.effect_term.specs.declared.reply.Outcome.{Outcome}
use Rattle.cell_registry.specs.declared.limits.RunError.{RunError}
use Rattle.scheduled_core.specs.declared.report.FiberReport.{FiberReport}
use Rattle.scheduled_core.specs.declared.report.Report.{Report}
use Rattle.every_schedule.specs.declared.exploration.Answer.{Answer}
use Rattle.every_outcome.specs.declared.outcomes.OutcomeAnswer.{OutcomeAnswer}

-- the outcomes of a report, or the fault
abbrev pub outcomes_in : Result Report RunError → Result (List (Option Outcome)) RunError
outcomes_in (Ok r) = Ok (map (λ (f : FiberReport). f.outcome) r.fibers)
outcomes_in (Err e) = Err e

abbrev pub outcome_answer : Answer → OutcomeAnswer
outcome_answer a = record { schedule = a.schedule; end = outcomes_in a.end }
