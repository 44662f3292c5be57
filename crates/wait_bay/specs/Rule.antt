-- The rule of a bay's table, and what the steps on it show.
use Rattle.std.specs.Prelude.{◌≡◌, ◌==◌, ◌<◌, ℕ, Option, ◌∷◌, length, slice_index, MatchBool}
use Rattle.atomic_table.specs.Table.{State, Step, Me, rest}
use mathlib.Core.Option.{some}
use lib.ListN.{get_elem?}
use Rattle.fiber_poll.specs.Tasks.{TaskView}
use Rattle.wait_bay.specs.declared.rule.Knowledge.{Knowledge}
use Rattle.wait_bay.specs.Names.{Named, MayLie}

-- Each seat knows what the bay names. A slot at home has what it can hold, a slot whose word is 0 is at home, and there
-- are as many words as slots
pub record KeepsTasks (named : Option Named) (s : State (Option TaskView) Knowledge) : Type 0 where
  pub seats : (seat : ℕ) (v : Knowledge) → get_elem? s.views seat ≡ some v → v.named ≡ named
  pub lie : (f : ℕ) (y : Option TaskView) → get_elem? s.homes f ≡ some (some y) → MayLie named f y
  pub home : (f : ℕ) → f < length s.homes → slice_index s.words f ≡ 0 → (y : Option TaskView) ×
      (get_elem? s.homes f ≡ some (some y))
  pub many : length s.words ≡ length s.homes

-- if the word was 0, the slot is now out with this seat, and has what it can hold; otherwise nothing has changed
abbrev pub GoesOut : Step (Option TaskView) → Me (Option TaskView) Knowledge → ℕ → Me (Option TaskView) Knowledge →
    Type 0
GoesOut s v found w =
    MatchBool (found == 0)
    ((w.0 ≡ v.0) × ((y : Option TaskView) × (w.1 ≡ (s.word, y) ∷ v.1) × MayLie v.0.named s.word y))
    (w ≡ v)

-- the slot that the seat took last is at home again
abbrev pub ComesHome : Step (Option TaskView) → Me (Option TaskView) Knowledge → ℕ → Me (Option TaskView) Knowledge →
    Type 0
ComesHome s v found w = (w.0 ≡ v.0) × (w.1 ≡ rest v.1)
