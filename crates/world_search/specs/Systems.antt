-- A system that moves by entries: where a schedule leads from a world, and when a report can no longer change.
use Rattle.std.specs.Prelude.{◌≡◌, ℕ, List, Result, Ok, Err}
use Rattle.std.specs.List.{fold}

-- an entry at a world leads to another world or to a fault
module _ {W E : Type 0} (step : W → ℕ → Result W E) where
  -- the result of one more entry, after entries that led to a world or to a fault
  abbrev pub entered : Result W E → ℕ → Result W E
  entered (Err e) f = Err e
  entered (Ok w) f = step w f

  -- the result of the entries of a schedule, in order
  abbrev pub run : Result W E → List ℕ → Result W E
  run x schedule = fold entered x schedule

  module _ {R : Type 0} (report : W → R) where
    abbrev pub reported : Result W E → Result R E
    reported (Ok w) = Ok (report w)
    reported (Err e) = Err e

    -- no further entries change the report or lead to a fault
    abbrev pub IsSettled : W → Type 0
    IsSettled w = (schedule : List ℕ) → reported (run (Ok w) schedule) ≡ Ok (report w)
