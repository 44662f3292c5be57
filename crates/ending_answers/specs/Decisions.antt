-- Decisions on the fair schedules of a program.
use Rattle.std.specs.Prelude.{◌<◌, ◌≤◌, ℕ, length}
use Rattle.std.specs.List.{All}
use Rattle.cell_registry.specs.declared.limits.Limits.{Limits}
use Rattle.derived_ops.specs.Tree.{Tree}
use Rattle.fair_ends.specs.declared.ending.Cycle.{Cycle}
use Rattle.fair_ends.specs.declared.ending.Ending.{Ending}
use Rattle.fair_ends.specs.declared.ending.Ending.TheVariants as decided
use Rattle.fair_ends.specs.Fair.{IsFair}
use Rattle.every_schedule.specs.Fairness.{Ends, IsForever}

-- The decision is right: every fair schedule of the code ends, or this cycle goes on for ever under a fair schedule.
abbrev pub IsEndingOf : Tree → Limits → Ending → Type 0
IsEndingOf code limits decided.Ends = (schedule : ℕ → ℕ) → IsFair 1000 schedule → Ends code limits schedule
IsEndingOf code limits (decided.Repeats c) = IsForever code limits c.stem.items c.cycle.items
IsEndingOf code limits decided.Undecided = Unit {0}

-- the schedules of a cycle have numbers of fibers, and each has at most `entries` entries
pub record IsShortCycle (entries : ℕ) (c : Cycle) : Type 0 where
  pub stem : All (λ f. f < 1000) c.stem.items
  pub cycle : All (λ f. f < 1000) c.cycle.items
  pub stem_short : length c.stem.items ≤ entries
  pub cycle_short : length c.cycle.items ≤ entries

abbrev pub IsShort : ℕ → Ending → Type 0
IsShort entries decided.Ends = Unit {0}
IsShort entries (decided.Repeats c) = IsShortCycle entries c
IsShort entries decided.Undecided = Unit {0}
