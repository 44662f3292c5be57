-- Free moves: a system in which some moves commute with those of all other fibers, and a reduced system that makes such
-- moves directly after each entry.
use Rattle.std.specs.Prelude.{◌≡◌, ◌≢◌, ◌⊎◌, ℕ, ◌<◌, List, Result, Ok, Err}
use Rattle.world_search.specs.Systems.{run}

module _ {W E : Type 0} (step : W → ℕ → Result W E) where
  -- the free move of fiber f, which leads to x, commutes with the entry of fiber g: both orders lead to the same world,
  -- and f's move is still free after g's entry; if this entry ends in a fault, it ends in the same fault from x
  abbrev pub Commutes : (W → ℕ → Type 0) → ℕ → W → ℕ → Result W E → Type 0
  Commutes Free f x g (Ok y) = Free y f × (z : W) × (step y f ≡ Ok z) × (step x g ≡ Ok z)
  Commutes Free f x g (Err e) = step x g ≡ Err e

  -- Free moves: each of them leads to a world, and commutes with each entry of another fiber
  pub record AreFree (Free : W → ℕ → Type 0) : Type 0 where
    pub goes : (w : W) (f : ℕ) → Free w f → (x : W) × (step w f ≡ Ok x)
    pub commutes : (w : W) (f : ℕ) (x : W) → Free w f → step w f ≡ Ok x → (g : ℕ) → g ≢ f →
        Commutes Free f x g (step w g)

  -- Moves that can be made early: as free moves, but an entry of another fiber that changes nothing need not commute
  pub record AreEarly (Free : W → ℕ → Type 0) : Type 0 where
    pub goes : (w : W) (f : ℕ) → Free w f → (x : W) × (step w f ≡ Ok x)
    pub commutes : (w : W) (f : ℕ) (x : W) → Free w f → step w f ≡ Ok x → (g : ℕ) → g ≢ f →
        (step w g ≡ Ok w) ⊎ Commutes Free f x g (step w g)

  -- free moves lead from one world to the other
  pub data Leads (Free : W → ℕ → Type 0) : W → W → Type 0 where
    Here : (w x : W) → w ≡ x → Leads Free w x
    On : (w : W) (f : ℕ) (x y : W) → Free w f → step w f ≡ Ok x → Leads Free x y → Leads Free w y

  -- the second result is the first with some free moves after it; a fault stays
  abbrev pub Leaps : (W → ℕ → Type 0) → Result W E → Result W E → Type 0
  Leaps Free (Ok x) y = (v : W) × Leads Free x v × (y ≡ Ok v)
  Leaps Free (Err e) y = y ≡ Err e

  -- The reduced system gets as far as the full one: after each schedule, some further entries lead where a schedule of
  -- the reduced system leads; and each of its schedules leads where one of the full system leads
  pub record Reduces (leap : W → ℕ → Result W E) : Type 0 where
    pub overtakes : (w : W) (s : List ℕ) →
        (t : List ℕ) × (more : List ℕ) × (run step (run step (Ok w) s) more ≡ run leap (Ok w) t)
    pub unfolded : (x : Result W E) (t : List ℕ) → (s : List ℕ) × (run step x s ≡ run leap x t)

  -- each entry keeps the report or makes it larger
  abbrev pub AreGrowing : {R : Type 0} → (W → R) → (R → ℕ) → Type 0
  AreGrowing report size = (w : W) (f : ℕ) (x : W) → step w f ≡ Ok x →
      (report x ≡ report w) ⊎ (size (report w) < size (report x))
