-- What the comparison of two programs reports of them under every schedule.
use Rattle.std.specs.Prelude.{◌≡◌, ◌⊎◌, ◌↔◌, ℕ, ◌<◌, ◌≤◌, true, false, List, length, max, Some, Result, IfOk}
use Rattle.std.specs.List.{All, slice_get}
use Rattle.derived_ops.specs.Tree.{Tree}
use Rattle.cell_registry.specs.declared.limits.Limits.{Limits}
use Rattle.cell_registry.specs.declared.limits.RunError.{RunError}
use Rattle.scheduled_core.specs.Core.{World, core, reported}
use Rattle.scheduled_core.specs.Finals.{IsSettled}
use Rattle.world_search.specs.declared.answers.Bounds.{Bounds}
use Rattle.world_search.specs.Answers.{IsAtBound}
use Rattle.every_schedule.specs.declared.exploration.Answer.{Answer}
use Rattle.every_schedule.specs.declared.exploration.Exploration.{Exploration}
use Rattle.every_schedule.specs.Explored.{IsCovered, IsPastBound, IsReached, ListOnce}
use Rattle.compared_ends.specs.declared.basis.Basis.{Basis}
use Rattle.compared_ends.specs.declared.comparison.Comparison.{Comparison}
use Rattle.compared_ends.specs.declared.comparison.Extra.{Extra}
use Rattle.compared_ends.specs.declared.comparison.Extra.TheVariants as extra
use Rattle.compared_ends.specs.Views.{View, viewed}

-- the result x of a schedule has this end: the view of a settled world's report, or this fault
pub record IsEnd (basis : Basis) (k : Limits) (x : Result World RunError) (end : Result View RunError) : Type 0 where
  pub settled : IfOk x (IsSettled k)
  pub seen : viewed basis (reported x) ≡ end

-- some schedule leads the program of this code to this end
pub record CanEnd (basis : Basis) (code : Tree) (k : Limits) (end : Result View RunError) : Type 0 where
  pub schedule : List ℕ
  pub ends : IsEnd basis k (core code k schedule) end

-- each end of the first program is one of the second
abbrev pub EndsWithin : Basis → Tree → Tree → Limits → Type 0
EndsWithin basis c d k = (end : Result View RunError) → CanEnd basis c k end → CanEnd basis d k end

-- the two programs have the same ends
abbrev pub SameEnds : Basis → Tree → Tree → Limits → Type 0
SameEnds basis c d k = (end : Result View RunError) → CanEnd basis c k end ↔ CanEnd basis d k end

-- the answer's schedule leads the first program to its end, and no schedule leads the second program to an end with the
-- same view
pub record IsOnly (basis : Basis) (c d : Tree) (k : Limits) (a : Answer) : Type 0 where
  pub reached : IsReached c k a
  pub never : CanEnd basis d k (viewed basis a.end) → ⊥

-- one of the answers has an end with this view
abbrev pub IsSeenIn : Basis → List Answer → Result View RunError → Type 0
IsSeenIn basis answers end = (i : ℕ) × (a : Answer) × (slice_get answers i ≡ Some a) × (viewed basis a.end ≡ end)

-- each of the answers has an end with the view of one of the others
abbrev pub AreSeenIn : Basis → List Answer → List Answer → Type 0
AreSeenIn basis ones others =
    (i : ℕ) (a : Answer) → slice_get ones i ≡ Some a → IsSeenIn basis others (viewed basis a.end)

-- An exploration met a bound, and the ends that were found don't decide: if the exploration of `one` is complete, some
-- of its ends aren't among the others; if the exploration of `other` is complete, all of the ends of `one` are
pub record IsUndecided (basis : Basis) (one other : Exploration) : Type 0 where
  pub bound : (one.complete ≡ false) ⊎ (other.complete ≡ false)
  pub some : one.complete ≡ true → AreSeenIn basis one.answers other.answers → ⊥
  pub none : other.complete ≡ true → AreSeenIn basis one.answers other.answers

-- which ends the first program has that the second hasn't, by their explorations
abbrev pub IsExtra : Basis → Tree → Tree → Limits → Exploration → Exploration → Extra → Type 0
IsExtra basis c d k one other (extra.Answer i) =
    (a : Answer) × (slice_get one.answers i ≡ Some a) × IsOnly basis c d k a
IsExtra basis c d k one other extra.Nothing = EndsWithin basis c d k
IsExtra basis c d k one other extra.Undecided = IsUndecided basis one other

-- an exploration of code under these limits, within these bounds
pub record IsExplored (code : Tree) (k : Limits) (bounds : Bounds) (e : Exploration) : Type 0 where
  pub all : e.complete ≡ true → (schedule : List ℕ) → IsCovered k e.answers (core code k schedule)
  pub each : All (IsReached code k) e.answers
  pub once : ListOnce e.answers
  pub stopped : e.complete ≡ false → IsAtBound bounds e.worlds e.bytes ⊎ IsPastBound code k bounds.entries e.answers
  pub room : e.worlds ≤ max bounds.worlds 1
  pub numbers : All (λ a. All (λ f. f < 1000) a.schedule) e.answers
  pub short : All (λ a. length a.schedule ≤ bounds.entries) e.answers

-- a comparison of two programs: the explorations of both, and what they show
pub record IsComparisonOf (basis : Basis) (c d : Tree) (k : Limits) (bounds : Bounds) (it : Comparison) : Type 0 where
  pub first_explored : IsExplored c k bounds it.first
  pub second_explored : IsExplored d k bounds it.second
  pub first : IsExtra basis c d k it.first it.second it.first_extra
  pub second : IsExtra basis d c k it.second it.first it.second_extra
