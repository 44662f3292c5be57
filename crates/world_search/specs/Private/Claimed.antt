-- The claims that a search lists, from its graph.
use Rattle.std.specs.Prelude.{◌≡◌, ◌⊎◌, ℕ, ◌<◌, ◌++◌, Bool, true, false, List, [], ◌∷◌, length, Some}
use Rattle.std.specs.List.{slice_get}
use Rattle.world_search.specs.declared.claims.Met.{Met}
use Rattle.world_search.specs.declared.graphs.Node.{Node}
use Rattle.world_search.specs.Claims.{IsFound}
use Rattle.world_search.specs.Private.Paths.{IsPath}

module _ {W C : Type 0} (meets : W → C → Bool) (ws : List W) where
  -- none of the first `many` worlds meets the claim
  abbrev pub MeetsNone : ℕ → C → Type 0
  MeetsNone many c = (j : ℕ) (w : W) → j < many → slice_get ws j ≡ Some w → meets w c ≡ false

  -- the world of a node meets the claim, and the schedule leads there
  pub record IsMetAt (nodes : List Node) (c : C) (schedule : List ℕ) : Type 0 where
    pub number : ℕ
    pub node : Node
    pub at : slice_get nodes number ≡ Some node
    pub holds : (w : W) → slice_get ws number ≡ Some w → meets w c ≡ true
    pub path : IsPath nodes node schedule

  abbrev pub IsListedMet : List Node → List C → Met → Type 0
  IsListedMet nodes claims m = (c : C) × (slice_get claims m.claim ≡ Some c) × IsMetAt nodes c m.schedule.items

  abbrev pub AreListedMet : List Node → List C → List Met → Type 0
  AreListedMet nodes claims met = (k : ℕ) (m : Met) → slice_get met k ≡ Some m → IsListedMet nodes claims m

  -- each of the first n claims is listed, or none of the first `many` worlds meets it
  abbrev pub AreLooked : ℕ → List C → ℕ → List Met → Type 0
  AreLooked many claims n met =
      (i : ℕ) (c : C) → i < n → slice_get claims i ≡ Some c → IsFound i met ⊎ MeetsNone many c

  -- the claim of this number is added at the end, or none of the worlds of these nodes meets it and nothing is added
  abbrev pub AddsMet : List Node → List C → ℕ → (old new : List Met) → Type 0
  AddsMet nodes claims number old new =
      ((new ≡ old) × ((c : C) → slice_get claims number ≡ Some c → MeetsNone (length nodes) c)) ⊎
      ((m : Met) × (new ≡ old ++ (m ∷ [])) × (m.claim ≡ number) × IsListedMet nodes claims m)
