-- The answer to a text whose program is explored.
use Rattle.std.specs.Prelude.{◌≡◌, ◌⊎◌, ◌<◌, ◌≤◌, ℕ, Bool, List, length, max, true, false}
use Rattle.std.specs.List.{All}
use Rattle.cell_registry.specs.declared.limits.Limits.{Limits}
use Rattle.derived_ops.specs.Expansion.{code_of}
use Rattle.derived_ops.specs.Reading.{source_of}
use Rattle.derived_ops.specs.Tree.{Tree}
use Rattle.effect_term.specs.declared.term.Term.{Term}
use Rattle.text_io.specs.declared.status.Status.{Status}
use Rattle.outcome_trace.specs.Answers.{IsProgramAnswer, IsRefusalAnswer}
use Rattle.scheduled_core.specs.Core.{core}
use Rattle.every_schedule.specs.declared.exploration.Exploration.{Exploration}
use Rattle.world_search.specs.declared.answers.Bounds.{Bounds}
use Rattle.world_search.specs.Answers.{IsAtBound}
use Rattle.every_schedule.specs.Explored.{IsCovered, IsPastBound, IsReached, ListOnce}
use Rattle.exploration_text.specs.declared.wants.Want.{Want}
use Rattle.exploration_text.specs.Missing.{missing_of_exploration}
use Rattle.exploration_text.specs.ExplorationText.{IsExplorationText, exploration_status}

-- An exploration of code under these limits, within these bounds; `timed` is whether its time was limited. If it is
-- complete, the end of every schedule is listed. If not, a bound was met, or `halted` is set and the time was over.
-- Each answer is the end of its schedule, and no end is listed twice.
pub record IsExplorationOf (code : Tree) (limits : Limits) (bounds : Bounds) (timed : Bool) (e : Exploration)
    : Type 0
  where
    pub all : e.complete ≡ true → (schedule : List ℕ) → IsCovered limits e.answers (core code limits schedule)
    pub each : All (IsReached code limits) e.answers
    pub once : ListOnce e.answers
    pub stopped : e.complete ≡ false → e.halted ≡ false →
        IsAtBound bounds e.worlds e.bytes ⊎ IsPastBound code limits bounds.entries e.answers
    pub halted : e.halted ≡ true → timed ≡ true
    pub room : e.worlds ≤ max bounds.worlds 1
    pub spare : e.complete ≡ true → e.bytes < bounds.memory
    pub short : All (λ a. length a.schedule ≤ bounds.entries) e.answers

-- the text and the status of an exploration of the program within the bounds; `timed` is whether its time was limited
pub record IsExploredAnswer (t : Term) (limits : Limits) (bounds : Bounds) (timed : Bool) (wants : List Want)
    (answer : List ℕ) (status : Status) : Type 0
  where
    pub exploration : Exploration
    pub explored : IsExplorationOf (code_of (source_of t)) limits bounds timed exploration
    pub text_is : IsExplorationText wants exploration answer
    pub status_is : status ≡ exploration_status wants exploration

-- the text and the status of an exploration, and the lines of the wanted outcomes that no answer has
pub record IsNotedExplored (t : Term) (limits : Limits) (bounds : Bounds) (timed : Bool) (wants : List Want)
    (note answer : List ℕ) (status : Status) : Type 0
  where
    pub explored : IsExploredAnswer t limits bounds timed wants answer status
    pub note_is : note ≡ missing_of_exploration wants explored.exploration

-- the answer of `explore` under limits, with its status: a refusal, or the exploration of the program that the text
-- spells
abbrev pub IsExploreAnswer : Limits → Bounds → (timed : Bool) → List Want → List ℕ → List ℕ → Status → Type 0
IsExploreAnswer limits bounds timed wants =
    IsProgramAnswer IsRefusalAnswer (λ t. IsExploredAnswer t limits bounds timed wants)
