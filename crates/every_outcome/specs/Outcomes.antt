-- The outcomes that a program can have under every schedule and every count of changes.
use Rattle.std.specs.Prelude.{◌≡◌, ◌≢◌, ℕ, ◌<◌, ◌≤◌, ◌++◌, List, length, Option, Some, Result, Ok, Err, map}
use Rattle.std.specs.List.{fold, slice_get}
use Rattle.effect_term.specs.declared.reply.Outcome.{Outcome}
use Rattle.derived_ops.specs.Tree.{Tree}
use Rattle.fiber_frames.specs.Fiber.{outcome_of}
use Rattle.cell_registry.specs.declared.limits.Limits.{Limits}
use Rattle.cell_registry.specs.declared.limits.RunError.{RunError}
use Rattle.cell_registry.specs.declared.limits.RunError.TheVariants as run
use Rattle.scheduled_core.specs.Core.{World, core, entered}
use Rattle.every_outcome.specs.declared.outcomes.OutcomeAnswer.{OutcomeAnswer}

-- the limits with this count of changes
abbrev pub counted : Limits → ℕ → Limits
counted k n = record k { count = n }

-- the outcomes of the fibers of a world, `None` for a fiber that hasn't ended; or the fault
abbrev pub outcomes : Result World RunError → Result (List (Option Outcome)) RunError
outcomes (Ok w) = Ok (map outcome_of w.fibers)
outcomes (Err e) = Err e

-- one of the answers has this end
abbrev pub IsListed : List OutcomeAnswer → Result (List (Option Outcome)) RunError → Type 0
IsListed answers end = (i : ℕ) × (a : OutcomeAnswer) × (slice_get answers i ≡ Some a) × (a.end ≡ end)

-- Entries led to this end: these outcomes, or this band whose numbers are used up. Nothing is said if a count is used
-- up.
abbrev pub Agrees : Result (List (Option Outcome)) RunError → Result World RunError → Type 0
Agrees end (Ok w) = outcomes (Ok w) ≡ end
Agrees end (Err (run.Full band n)) = Err (run.Full band n) ≡ end
Agrees end (Err e) = Unit {0}

-- no further entries, under any count, change the outcomes or use up the numbers of a band
abbrev pub KeepsOutcomes : Limits → World → Type 0
KeepsOutcomes k w = (count : ℕ) (more : List ℕ) → Agrees (outcomes (Ok w)) (fold (entered (counted k count)) (Ok w) more)

-- the result of a schedule is listed if it is a world whose outcomes stay, or a band whose numbers are used up
abbrev pub IsCovered : Limits → List OutcomeAnswer → Result World RunError → Type 0
IsCovered k answers (Ok w) = KeepsOutcomes k w → IsListed answers (outcomes (Ok w))
IsCovered k answers (Err (run.Full band n)) = IsListed answers (Err (run.Full band n))
IsCovered k answers (Err e) = Unit {0}

-- Under each count that is at least the number of its entries, the schedule of an answer leads to its end. No further
-- entries, under any count, change this end.
pub record IsReached (code : Tree) (k : Limits) (a : OutcomeAnswer) : Type 0 where
  pub leads : (count : ℕ) → length a.schedule ≤ count → outcomes (core code (counted k count) a.schedule) ≡ a.end
  pub stays : (count : ℕ) (more : List ℕ) → Agrees a.end (core code (counted k count) (a.schedule ++ more))

-- no two answers have the same end
abbrev pub ListOnce : List OutcomeAnswer → Type 0
ListOnce answers = (i j : ℕ) (a b : OutcomeAnswer) → i < j → slice_get answers i ≡ Some a →
    slice_get answers j ≡ Some b → a.end ≢ b.end
