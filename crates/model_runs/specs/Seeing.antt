-- What a claim sees of the ends of schedules.
use Rattle.std.specs.Prelude.{◌≡◌, ◌≤◌, Bool, true, false, if◌then◌else◌, ℕ, List, length, map}
use Rattle.std.specs.Prelude.{Option, Some, None, Result, Ok, Err}
use Rattle.std.specs.List.{All}
use Rattle.effect_term.specs.declared.reply.Outcome.{Outcome}
use Rattle.cell_registry.specs.declared.limits.Limits.{Limits}
use Rattle.cell_registry.specs.declared.limits.RunError.{RunError}
use Rattle.derived_ops.specs.Tree.{Tree}
use Rattle.scheduled_core.specs.Core.{core, reported}
use Rattle.scheduled_core.specs.declared.report.Report.{Report}
use Rattle.every_schedule.specs.Explored.{IsCovered, IsReached}
use Rattle.every_schedule.specs.declared.exploration.Answer.{Answer}
use Rattle.every_outcome.specs.Outcomes.{IsCovered as IsOutcomeCovered, IsReached as IsOutcomeReached, counted}
use Rattle.every_outcome.specs.declared.outcomes.OutcomeAnswer.{OutcomeAnswer}
use Rattle.model_claims.specs.declared.answer.Seen.{Seen}
use Rattle.model_runs.specs.declared.result.NamedAnswer.{NamedAnswer}
use Rattle.model_runs.specs.declared.result.Search.{Search}

-- the outcome of each fiber, if it has ended, at the end of a schedule; none for a fault
abbrev pub outcomes : Result Report RunError → Option (List (Option Outcome))
outcomes (Ok r) = Some (map (λ f. f.outcome) r.fibers)
outcomes (Err e) = None

-- the outcomes that a claim sees
abbrev pub seen_outcomes : Seen → Option (List (Option Outcome))
seen_outcomes s = if s.faulty then None else Some (map (λ f. f.outcome) s.fibers.items)

-- the outcomes that are seen of an answer are those to which its schedule leads in the core
pub record IsSeen (code : Tree) (k : Limits) (a : NamedAnswer) : Type 0 where
  pub same : seen_outcomes a.seen ≡ outcomes (reported (core code k a.schedule))

-- the answers have the schedules of these, in the same order
abbrev pub IsAllOf : List Answer → List NamedAnswer → Type 0
IsAllOf found answers = map (λ a. a.schedule) answers ≡ map (λ a. a.schedule) found

-- the same of answers that are outcomes
abbrev pub AreOutcomesOf : List OutcomeAnswer → List NamedAnswer → Type 0
AreOutcomesOf found answers = map (λ a. a.schedule) answers ≡ map (λ a. a.schedule) found

-- The answers are those of an exploration that covers every schedule. If its worlds keep marks (the flag is true), it
-- has each final report and each fault. If they don't, it has under every count the outcomes that no further entries
-- change, and each band whose numbers can be used up; no schedule of an answer has more entries than the limits' count.
abbrev pub AreAll : Bool → Tree → Limits → List NamedAnswer → Type 0
AreAll true code k answers = (found : List Answer) × All (IsReached code k) found ×
    ((schedule : List ℕ) → IsCovered k found (core code k schedule)) × IsAllOf found answers
AreAll false code k answers = (found : List OutcomeAnswer) × All (IsOutcomeReached code k) found ×
    ((count : ℕ) (schedule : List ℕ) → IsOutcomeCovered k found (core code (counted k count) schedule)) ×
    All (λ a. length a.schedule ≤ k.count) found × AreOutcomesOf found answers

-- a search is right about a code: each of its answers has the outcomes to which its schedule leads; if the search is
-- complete, its answers are those of an exploration that covers every schedule
pub record IsRight (code : Tree) (k : Limits) (s : Search) : Type 0 where
  pub each : All (IsSeen code k) s.answers.items
  pub all : s.complete ≡ true → AreAll s.marked code k s.answers.items

-- a search is right about the code of a program under some limits
pub record IsRightOfSome (s : Search) : Type 0 where
  pub code : Tree
  pub limits : Limits
  pub right : IsRight code limits s
