-- Where the steps at each world lead, by numbers.
use Rattle.std.specs.Prelude.{◌≡◌, ◌⊎◌, ℕ, ◌<◌, ◌≤◌, List, [], ◌∷◌, length, Some, Result, Ok, Err}
use Rattle.std.specs.List.{slice_get}
use Rattle.world_search.specs.declared.landings.Landing.TheVariants as to
use Rattle.world_search.specs.declared.landings.Entered.{Entered}
use Rattle.world_search.specs.declared.landings.Entered.TheVariants as came
use Rattle.world_search.specs.Lists.{IsIn}
use Rattle.world_search.specs.Systems.{run}
use Rattle.fair_ends.specs.Fair.{Makes}
use Rattle.fair_ends.specs.declared.table.Edge.{Edge}
use Rattle.fair_ends.specs.declared.table.Row.{Row}

-- the target of a step that ends in a fault, in place of the number of a world
abbrev pub fault : ℕ
fault = 4294967295

-- t is the target of a step with this result
abbrev pub IsTarget : Entered → ℕ → Type 0
IsTarget (came.At (to.World j)) t = (t ≡ j) × (j < fault)
IsTarget (came.At (to.Fault j)) t = t ≡ fault
IsTarget came.Full t = ⊥

-- the step of fiber f makes no entry of that fiber, or its entry alone, which leads to the world of this number
abbrev pub IsStill : ℕ → ℕ → Edge → Type 0
IsStill t f e = (IsIn f e.made.items → ⊥) ⊎ ((e.made.items ≡ f ∷ []) × (e.target ≡ t))

-- these entries lead to the world of this number
abbrev pub LeadsToWorld : {W E : Type 0} → (W → ℕ → Result W E) → List W → W → List ℕ → ℕ → Type 0
LeadsToWorld entry ws w entries to = (x : _) × (slice_get ws to ≡ Some x) × (run entry (Ok w) entries ≡ Ok x)

module _ {W E : Type 0} (ws : List W) where
  -- t is the number of this world, or `fault` for a fault
  abbrev pub LandsOn : ℕ → Result W E → Type 0
  LandsOn t (Ok x) = (slice_get ws t ≡ Some x) × (t < fault)
  LandsOn t (Err e) = t ≡ fault

module _ {W E : Type 0} (entry : W → ℕ → Result W E) (Free : W → ℕ → Type 0) (step : W → ℕ → Result W E) (most : ℕ)
    (ws : List W) where
  -- where the step of fiber f leads from this world, and the entries that the step makes
  pub record IsEdge (w : W) (f : ℕ) (edge : Edge) : Type 0 where
    pub lands : LandsOn ws edge.target (step w f)
    pub makes : Makes entry Free step most w f edge.made.items

  -- the edges of the first n fibers at this world
  abbrev pub AreEdges : ℕ → W → List Edge → Type 0
  AreEdges n w edges = (length edges ≡ n) × ((f : ℕ) (e : Edge) → slice_get edges f ≡ Some e → IsEdge w f e)

  -- the row of this world: the edges of its fibers; the step of any other fiber makes no entry
  pub record IsRow (w : W) (row : Row) : Type 0 where
    pub each : (f : ℕ) (e : Edge) → slice_get row.edges.items f ≡ Some e → IsEdge w f e
    pub rests : (f : ℕ) → length row.edges.items ≤ f → Makes entry Free step most w f []
    pub few : length row.edges.items ≤ most

  -- each row is that of the world of its number
  abbrev pub AreRows : List Row → Type 0
  AreRows rows = (i : ℕ) (row : Row) (w : W) → slice_get rows i ≡ Some row → slice_get ws i ≡ Some w → IsRow w row

  -- each world has its row
  pub record IsTable (rows : List Row) : Type 0 where
    pub even : length rows ≡ length ws
    pub each : AreRows rows
