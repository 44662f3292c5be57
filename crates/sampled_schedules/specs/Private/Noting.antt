-- The tally after one more schedule is drawn.
use Rattle.std.specs.Prelude.{◌≡◌, ◌≢◌, ◌+◌, ◌&&◌, ℕ, Bool, List, [], ◌∷◌, ◌++◌, Some, slice_set}
use Rattle.std.specs.List.{slice_get, sum_by}
use Rattle.sampled_schedules.specs.declared.comings.Coming.{Coming}
use Rattle.sampled_schedules.specs.declared.comings.Drawn.{Drawn}

-- the number of schedules with any of these ends
abbrev pub came_in_all : List Coming → ℕ
came_in_all comings = sum_by (λ (c : Coming). c.times) comings

-- one more schedule has this end; `cut` is whether it was cut short
abbrev pub raised : Coming → Bool → Coming
raised c cut = record { answer = c.answer; times = c.times + 1; cut = c.cut && cut }

-- a coming with this schedule alone
abbrev pub coming_of : Drawn → Coming
coming_of d = record { answer = d.answer; times = 1; cut = d.cut }

-- the end of the schedule came again, or for the first time
pub data IsNoted (old : List Coming) (d : Drawn) (new : List Coming) : Type 0 where
  Again : (i : ℕ) (c : Coming) → slice_get old i ≡ Some c → c.answer.end ≡ d.answer.end →
      new ≡ slice_set old i (raised c d.cut) → IsNoted old d new
  First : ((i : ℕ) (c : Coming) → slice_get old i ≡ Some c → c.answer.end ≢ d.answer.end) →
      new ≡ old ++ coming_of d ∷ [] → IsNoted old d new
