-- What a sample of schedules reports of a program.
use Rattle.std.specs.Prelude.{◌≡◌, ◌≢◌, ◌+◌, ◌<◌, ◌≤◌, ℕ, true, false, List, [], ◌∷◌, length, Some, None}
use Rattle.std.specs.Prelude.{Result, Ok, Err}
use Rattle.std.specs.List.{All, slice_get}
use Rattle.derived_ops.specs.Tree.{Tree}
use Rattle.cell_registry.specs.declared.limits.Limits.{Limits}
use Rattle.cell_registry.specs.declared.limits.RunError.{RunError}
use Rattle.scheduled_core.specs.declared.report.FiberReport.{FiberReport}
use Rattle.scheduled_core.specs.declared.report.Report.{Report}
use Rattle.scheduled_core.specs.Core.{core, reported}
use Rattle.every_schedule.specs.declared.exploration.Answer.{Answer}
use Rattle.every_schedule.specs.Explored.{IsReached}
use Rattle.sampled_schedules.specs.declared.comings.Coming.{Coming}
use Rattle.sampled_schedules.specs.declared.comings.Drawn.{Drawn}

-- The schedule of an answer leads to its end, and to a settled world if the end is a report and the schedule is shorter
-- than `most`. The schedule has at most `most` entries, each the number of a fiber.
pub record IsDrawn (code : Tree) (k : Limits) (most : ℕ) (a : Answer) : Type 0 where
  pub reached : reported (core code k a.schedule) ≡ a.end
  pub settled : length a.schedule < most → IsReached code k a
  pub short : length a.schedule ≤ most
  pub numbers : All (λ f. f < 1000) a.schedule

-- the end is a report, and a fiber in it hasn't ended
abbrev pub IsUnended : Result Report RunError → Type 0
IsUnended (Ok r) = (f : ℕ) × (g : FiberReport) × (slice_get r.fibers f ≡ Some g) × (g.outcome ≡ None)
IsUnended (Err e) = ⊥

-- The schedule has `most` entries, and leads to a report in which a fiber hasn't ended.
pub record IsCutShort (most : ℕ) (a : Answer) : Type 0 where
  pub long : length a.schedule ≡ most
  pub unended : IsUnended a.end

-- This answer was drawn. It is reached and settled unless the schedule was cut short.
pub record IsDrawing (code : Tree) (k : Limits) (most : ℕ) (d : Drawn) : Type 0 where
  pub drawn : IsDrawn code k most d.answer
  pub final : d.cut ≡ false → IsReached code k d.answer
  pub cut : d.cut ≡ true → IsCutShort most d.answer

-- some schedule leads to this end; if it is a report, no further entries change it
pub record StaysSo (code : Tree) (k : Limits) (end : Result Report RunError) : Type 0 where
  pub answer : Answer
  pub ends : answer.end ≡ end
  pub reached : IsReached code k answer

-- this many of these schedules have this end
pub data EndSo (end : Result Report RunError) : List Drawn → ℕ → Type 0 where
  none : EndSo end [] 0
  one_more : (d : Drawn) (drawn : List Drawn) (n : ℕ) → d.answer.end ≡ end → EndSo end drawn n →
      EndSo end (d ∷ drawn) (n + 1)
  another : (d : Drawn) (drawn : List Drawn) (n : ℕ) → d.answer.end ≢ end → EndSo end drawn n →
      EndSo end (d ∷ drawn) n

-- one of the comings has this end
abbrev pub IsTold : List Coming → Result Report RunError → Type 0
IsTold comings end = (i : ℕ) × (c : Coming) × (slice_get comings i ≡ Some c) × (c.answer.end ≡ end)

-- an answer that was drawn, the first with its end; the list has the last drawn one first
pub record IsFirst (drawn : List Drawn) (a : Answer) : Type 0 where
  pub place : ℕ
  pub one : Drawn
  pub here : slice_get drawn place ≡ Some one
  pub answer : one.answer ≡ a
  pub earlier : (i : ℕ) (b : Drawn) → place < i → slice_get drawn i ≡ Some b → b.answer.end ≢ a.end

-- one of these schedules with this end wasn't cut short
abbrev pub SomeUncut : List Drawn → Result Report RunError → Type 0
SomeUncut drawn end =
    (i : ℕ) × (d : Drawn) × (slice_get drawn i ≡ Some d) × (d.answer.end ≡ end) × (d.cut ≡ false)

-- each of these schedules with this end was cut short
abbrev pub AllCut : List Drawn → Result Report RunError → Type 0
AllCut drawn end = (i : ℕ) (d : Drawn) → slice_get drawn i ≡ Some d → d.answer.end ≡ end → d.cut ≡ true

-- The tally of these schedules, which are listed with the last drawn one first: each end occurs once, with the first
-- schedule that has it, with the number of schedules that have it, and with whether each of those was cut short.
pub record IsTally (drawn : List Drawn) (comings : List Coming) : Type 0 where
  pub all : (i : ℕ) (d : Drawn) → slice_get drawn i ≡ Some d → IsTold comings d.answer.end
  pub once : (i j : ℕ) (b c : Coming) → slice_get comings i ≡ Some b → slice_get comings j ≡ Some c →
      b.answer.end ≡ c.answer.end → i ≡ j
  pub firsts : (i : ℕ) (c : Coming) → slice_get comings i ≡ Some c → IsFirst drawn c.answer
  pub counts : (i : ℕ) (c : Coming) → slice_get comings i ≡ Some c → EndSo c.answer.end drawn c.times
  pub cut : (i : ℕ) (c : Coming) → slice_get comings i ≡ Some c → c.cut ≡ true → AllCut drawn c.answer.end
  pub uncut : (i : ℕ) (c : Coming) → slice_get comings i ≡ Some c → c.cut ≡ false → SomeUncut drawn c.answer.end

-- this many schedules were drawn, and this is their tally
pub record IsSampleOf (code : Tree) (k : Limits) (most : ℕ) (times : ℕ) (comings : List Coming) : Type 0 where
  pub drawn : List Drawn
  pub many : length drawn ≡ times
  pub each : All (IsDrawing code k most) drawn
  pub tally : IsTally drawn comings
