-- The outcomes and says that the fibers of a program can have under every schedule, within bounds.
use Rattle.std.specs.Prelude.{◌≡◌, ◌⊎◌, ◌<◌, ◌≤◌, ℕ, Bool, List, length, max, nat_le, true, false, Ok}
use Rattle.std.specs.List.{All, filter}
use Rattle.cell_registry.specs.declared.limits.Limits.{Limits}
use Rattle.derived_ops.specs.Tree.{Tree}
use Rattle.scheduled_core.specs.Core.{World, core}
use Rattle.scheduled_core.specs.Finals.{IsSettled}
use Rattle.world_search.specs.declared.answers.Bounds.{Bounds}
use Rattle.world_search.specs.Answers.{IsAtBound}
use Rattle.every_schedule.specs.declared.exploration.Answer.{Answer}
use Rattle.every_schedule.specs.declared.exploration.Exploration.{Exploration}
use Rattle.every_schedule.specs.Explored.{IsListed, ListOnce}
use Rattle.every_outcome.specs.Outcomes.{counted}
use Rattle.every_outcome.specs.Reports.{IsReported, Reaches, reports}

-- the schedule of an answer has at most `entries` entries
abbrev pub is_short : ℕ → Answer → Bool
is_short entries a = nat_le (length a.schedule) entries

-- the answers whose schedules have at most `entries` entries
abbrev pub short_in : ℕ → List Answer → List Answer
short_in entries answers = filter (is_short entries) answers

-- a schedule of more than `entries` entries leads to outcomes and says that stay, or to a band whose numbers are used
-- up, and these are not among the answers
pub record IsPastSays (code : Tree) (limits : Limits) (entries : ℕ) (answers : List Answer) : Type 0 where
  pub answer : Answer
  pub reached : Reaches true code limits answer
  pub long : entries < length answer.schedule
  pub unlisted : IsListed answers answer.end → ⊥

-- An exploration of the outcomes and says of code within these limits and bounds; `timed` is whether its time was
-- limited. If the exploration is complete, it lists the outcomes and says of every settled world, and those that no
-- entry changes, for every limit on changes. If it isn't complete, it met a bound, or it is halted because its time was
-- over. Each answer is what its schedule leads to, and no two answers have the same end.
pub record IsSaysOf (code : Tree) (limits : Limits) (bounds : Bounds) (timed : Bool) (e : Exploration) : Type 0 where
  pub all : e.complete ≡ true → (count : ℕ) (schedule : List ℕ) →
      IsReported true limits e.answers (core code (counted limits count) schedule)
  pub settled : e.complete ≡ true → (count : ℕ) (schedule : List ℕ) (w : World) →
      core code (counted limits count) schedule ≡ Ok w → IsSettled (counted limits count) w →
      IsListed e.answers (reports true (Ok w))
  pub each : All (Reaches true code limits) e.answers
  pub once : ListOnce e.answers
  pub stopped : e.complete ≡ false → e.halted ≡ false →
      IsAtBound bounds e.worlds e.bytes ⊎ IsPastSays code limits bounds.entries e.answers
  pub halted : e.halted ≡ true → timed ≡ true
  pub room : e.worlds ≤ max bounds.worlds 1
  pub spare : e.complete ≡ true → e.bytes < bounds.memory
  pub short : All (λ a. length a.schedule ≤ bounds.entries) e.answers
