-- Ranks of worlds, which show that each fair schedule ends.
use Rattle.std.specs.Prelude.{◌≡◌, ◌≢◌, ◌⊎◌, ℕ, ◌<◌, true, false, List, Some, Result, Ok, Err}
use Rattle.std.specs.List.{slice_get}
use Rattle.world_search.specs.Lists.{IsIn}
use Rattle.fair_ends.specs.declared.rank.Rank.{Rank}
use Rattle.fair_ends.specs.Fair.{Makes}

-- the rank falls under the step of fiber f; or the rank and the helpful fiber stay, and f isn't that fiber and its step
-- makes no entry of it
abbrev pub Falls : Rank → ℕ → List ℕ → Rank → Type 0
Falls a f made b =
    (b.rank < a.rank) ⊎ ((b.rank ≡ a.rank) × (b.helper ≡ a.helper) × (f ≢ a.helper) × (IsIn a.helper made → ⊥))

module _ {W E : Type 0} (entry : W → ℕ → Result W E) (Free : W → ℕ → Type 0) (step : W → ℕ → Result W E)
    (Rests : W → Type 0) (most : ℕ) (ws : List W) (ranks : List Rank) where
  -- the step of fiber f leads from a world of rank a to a fault, to a quiet world, or to one where `Falls` holds
  abbrev pub Leads : Rank → ℕ → List ℕ → Result W E → Type 0
  Leads a f made (Ok x) = (j : ℕ) × (b : Rank) × (slice_get ws j ≡ Some x) × (slice_get ranks j ≡ Some b) ×
      ((b.quiet ≡ true) ⊎ Falls a f made b)
  Leads a f made (Err e) = Unit {0}

  -- the same, with the entries that the step makes
  abbrev pub LeadsOn : Rank → W → ℕ → Type 0
  LeadsOn a w f = (made : List ℕ) × Makes entry Free step most w f made × Leads a f made (step w f)

  pub record IsRanked (a : Rank) (w : W) : Type 0 where
    pub rests : a.quiet ≡ true → Rests w
    pub leads : a.quiet ≡ false → (f : ℕ) → LeadsOn a w f
    pub helped : a.quiet ≡ false → a.helper < most

  -- each world has a rank that is right
  abbrev pub AreRanked : Type 0
  AreRanked = (i : ℕ) (a : Rank) (w : W) → slice_get ranks i ≡ Some a → slice_get ws i ≡ Some w → IsRanked a w
