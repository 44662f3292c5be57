-- The reports of fibers, by the numbers of their states.
use Rattle.std.specs.Prelude.{◌≡◌, ◌≢◌, ◌⊎◌, ℕ, List, length, map, Some}
use Rattle.std.specs.List.{fold, slice_get}
use Rattle.std.specs.Option.{option_to_list}
use Rattle.fiber_frames.specs.Fiber.{Fiber}
use Rattle.scheduled_core.specs.Core.{fiber_report}
use Rattle.every_schedule.specs.Digests.{with_report}

module _ (fs : List Fiber) where
  -- the two states make the same report
  abbrev pub Alike : ℕ → ℕ → Type 0
  Alike m n = (g h : Fiber) → slice_get fs m ≡ Some g → slice_get fs n ≡ Some h → fiber_report g ≡ fiber_report h

  -- the two states make different reports
  abbrev pub Differ : ℕ → ℕ → Type 0
  Differ m n = (g h : Fiber) → slice_get fs m ≡ Some g → slice_get fs n ≡ Some h → fiber_report g ≢ fiber_report h

  -- the lists have one length, and the states at each place make the same report
  pub record AreAlike (ms ns : List ℕ) : Type 0 where
    pub many : length ms ≡ length ns
    pub each : (i m n : ℕ) → slice_get ms i ≡ Some m → slice_get ns i ≡ Some n → Alike m n

  -- the lists differ in length, or the states at one place make different reports
  abbrev pub AreOther : List ℕ → List ℕ → Type 0
  AreOther ms ns = (length ms ≢ length ns) ⊎
      ((i : ℕ) × (m : ℕ) × (n : ℕ) × (slice_get ms i ≡ Some m) × (slice_get ns i ≡ Some n) × Differ m n)

  -- a digest, extended by the report of a fiber in the state of this number
  abbrev pub with_state : (digest number : ℕ) → ℕ
  with_state d n = fold with_report d (map fiber_report (option_to_list (slice_get fs n)))
