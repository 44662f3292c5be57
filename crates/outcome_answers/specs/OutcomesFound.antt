-- The outcomes that the fibers of a program can have under every schedule, within bounds.
use Rattle.std.specs.Prelude.{◌≡◌, ◌⊎◌, ◌<◌, ◌≤◌, ℕ, Bool, List, length, max, true, false, Ok}
use Rattle.std.specs.List.{All}
use Rattle.cell_registry.specs.declared.limits.Limits.{Limits}
use Rattle.derived_ops.specs.Tree.{Tree}
use Rattle.scheduled_core.specs.Core.{World, core}
use Rattle.scheduled_core.specs.Finals.{IsSettled}
use Rattle.world_search.specs.declared.answers.Bounds.{Bounds}
use Rattle.world_search.specs.Answers.{IsAtBound}
use Rattle.every_outcome.specs.declared.outcomes.OutcomeAnswer.{OutcomeAnswer}
use Rattle.every_outcome.specs.declared.outcomes.OutcomeExploration.{OutcomeExploration}
use Rattle.every_outcome.specs.Outcomes.{IsCovered, IsListed, IsReached, ListOnce, counted, outcomes}

-- a schedule of more than `entries` entries leads to outcomes that stay, or to a band whose numbers are used up, and
-- these are not among the answers
pub record IsPastEntries (code : Tree) (limits : Limits) (entries : ℕ) (answers : List OutcomeAnswer) : Type 0 where
  pub answer : OutcomeAnswer
  pub reached : IsReached code limits answer
  pub long : entries < length answer.schedule
  pub unlisted : IsListed answers answer.end → ⊥

-- An exploration of the outcomes of code within these limits and bounds; `timed` is whether its time was limited. If
-- the exploration is complete, it lists the outcomes of every settled world, and the outcomes that no entry changes,
-- for every limit on changes. If it isn't complete, it met a bound, or it is halted because its time was over. Each
-- answer is what its schedule leads to, and no two answers have the same end.
pub record IsOutcomesOf (code : Tree) (limits : Limits) (bounds : Bounds) (timed : Bool) (e : OutcomeExploration)
    : Type 0
  where
    pub all : e.complete ≡ true → (count : ℕ) (schedule : List ℕ) →
        IsCovered limits e.answers.items (core code (counted limits count) schedule)
    pub settled : e.complete ≡ true → (count : ℕ) (schedule : List ℕ) (w : World) →
        core code (counted limits count) schedule ≡ Ok w → IsSettled (counted limits count) w →
        IsListed e.answers.items (outcomes (Ok w))
    pub each : All (IsReached code limits) e.answers.items
    pub once : ListOnce e.answers.items
    pub stopped : e.complete ≡ false → e.halted ≡ false →
        IsAtBound bounds e.worlds e.bytes ⊎ IsPastEntries code limits bounds.entries e.answers.items
    pub halted : e.halted ≡ true → timed ≡ true
    pub room : e.worlds ≤ max bounds.worlds 1
    pub spare : e.complete ≡ true → e.bytes < bounds.memory
    pub short : All (λ a. length a.schedule ≤ bounds.entries) e.answers.items
