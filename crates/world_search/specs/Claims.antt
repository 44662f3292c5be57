-- What a search reports of claims of worlds.
use Rattle.std.specs.Prelude.{◌≡◌, ℕ, ◌<◌, ◌≤◌, Bool, true, List, length, Some, Result, Ok}
use Rattle.std.specs.List.{slice_get, All}
use Rattle.world_search.specs.declared.claims.Met.{Met}
use Rattle.world_search.specs.Lists.{IsIn}
use Rattle.world_search.specs.Systems.{run}

-- the claim of this number is among those that are met
abbrev pub IsFound : ℕ → List Met → Type 0
IsFound i met = (m : Met) × IsIn m met × (m.claim ≡ i)

-- each entry of the schedule is below `most`
abbrev pub IsFew : ℕ → Met → Type 0
IsFew most m = All (λ f. f < most) m.schedule.items

-- the schedule has at most `entries` entries
abbrev pub IsBrief : ℕ → Met → Type 0
IsBrief entries m = length m.schedule.items ≤ entries

-- the schedule leads from `first` to a world that meets the claim of this number
abbrev pub IsMetBy : {W E C : Type 0} → (W → ℕ → Result W E) → (W → C → Bool) → W → List C → Met → Type 0
IsMetBy step meets first claims m =
    (c : _) × (slice_get claims m.claim ≡ Some c) ×
    ((w : _) × (run step (Ok first) m.schedule.items ≡ Ok w) × (meets w c ≡ true))
