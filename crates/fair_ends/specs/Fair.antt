-- Infinite schedules: which of them are fair, and which lead to an end.
use Rattle.std.specs.Prelude.{◌≡◌, ◌⊎◌, ℕ, zero, suc, ◌<◌, ◌≤◌, ◌++◌, List, [], ◌∷◌, Result, Ok, Err}
use Rattle.world_search.specs.Free.{AreFree}
use Rattle.world_search.specs.Lists.{IsIn}
use Rattle.world_search.specs.Systems.{run}

-- the first n entries of an infinite schedule
abbrev pub first_of : (ℕ → ℕ) → ℕ → List ℕ
first_of s zero = []
first_of s (suc n) = first_of s n ++ (s n ∷ [])

-- each fiber below `many` has entries again and again
abbrev pub IsFair : ℕ → (ℕ → ℕ) → Type 0
IsFair many s = (f n : ℕ) → f < many → (m : ℕ) × (n ≤ m) × (s m ≡ f)

module _ {W E : Type 0} (step : W → ℕ → Result W E) (Rests : W → Type 0) where
  -- a fault, or a world that is at rest
  abbrev pub IsEnd : Result W E → Type 0
  IsEnd (Ok w) = Rests w
  IsEnd (Err e) = Unit {0}

  -- some first entries of the schedule lead from this world to an end
  abbrev pub EndsUnder : W → (ℕ → ℕ) → Type 0
  EndsUnder first s = (n : ℕ) × IsEnd (run step (Ok first) (first_of s n))

  -- A cycle that a fair schedule can repeat for ever: the entries of `stem` lead to a world, which isn't at rest, those
  -- of `cycle` lead back to it, and each fiber has an entry among these or changes nothing at that world
  pub record IsFairCycle (first : W) (stem cycle : List ℕ) : Type 0 where
    pub world : W
    pub comes : run step (Ok first) stem ≡ Ok world
    pub unrested : Rests world → ⊥
    pub returns : run step (Ok world) cycle ≡ Ok world
    pub fair : (f : ℕ) → IsIn f cycle ⊎ (step world f ≡ Ok world)

-- ---- entries followed by free moves
module _ {W E : Type 0} (entry : W → ℕ → Result W E) (Free : W → ℕ → Type 0) where
  -- these free moves lead from one world to the other
  abbrev pub LeadBy : W → List ℕ → W → Type 0
  LeadBy w [] v = w ≡ v
  LeadBy w (f ∷ fs) v = Free w f × (x : W) × (entry w f ≡ Ok x) × LeadBy x fs v

  -- free moves lead from where an entry has led to y; each of them is one of the entries `made`
  abbrev pub IsBehind : List ℕ → Result W E → Result W E → Type 0
  IsBehind made (Ok x) y = (free : List ℕ) × (v : W) × LeadBy x free v × (y ≡ Ok v) ×
      ((f : ℕ) → IsIn f free → IsIn f made)
  IsBehind made (Err e) y = y ≡ Err e

  -- The entries `made` are that of fiber f and free moves after it, and lead where the step of fiber f does. If none of
  -- them is of fiber f, its entry changes nothing
  pub record Makes (step : W → ℕ → Result W E) (most : ℕ) (w : W) (f : ℕ) (made : List ℕ) : Type 0 where
    pub leads : run entry (Ok w) made ≡ step w f
    pub free : IsBehind made (entry w f) (step w f)
    pub still : (IsIn f made → ⊥) → entry w f ≡ Ok w
    pub few : (g : ℕ) → IsIn g made → g < most

  -- no entry leads from a world at rest to one that isn't, or to a fault
  abbrev pub StaysAtRest : (W → Type 0) → Type 0
  StaysAtRest Rests = (w : W) (f : ℕ) → Rests w → (x : W) × (entry w f ≡ Ok x) × Rests x

  -- free moves commute with the entries of other fibers, and a world at rest stays at rest
  pub record AreRight (Rests : W → Type 0) : Type 0 where
    pub free : AreFree entry Free
    pub rest : StaysAtRest Rests
