-- Flags of worlds, which spread back along edges.
use Rattle.std.specs.Prelude.{◌≡◌, ℕ, ◌<◌, ◌≤◌, ◌+◌, Bool, true, false, List, [], ◌∷◌, Some}
use Rattle.std.specs.List.{slice_get}
use Rattle.world_search.specs.declared.graphs.Edge.{Edge}

-- each edge is between worlds below n
abbrev pub AreWithin : List Edge → ℕ → Type 0
AreWithin edges n = (k : ℕ) (e : Edge) → slice_get edges k ≡ Some e → (e.from < n) × (e.to < n)

-- edges lead from one world to the other
pub data LeadsOn (edges : List Edge) : ℕ → ℕ → Type 0 where
  Here : (i j : ℕ) → i ≡ j → LeadsOn edges i j
  Along : (k : ℕ) (e : Edge) (i j : ℕ) → slice_get edges k ≡ Some e → i ≡ e.from → LeadsOn edges e.to j →
      LeadsOn edges i j

-- edges lead from each flagged world to one that was flagged before
abbrev pub AreFlagged : List Edge → List Bool → List Bool → Type 0
AreFlagged edges old new = (i : ℕ) → slice_get new i ≡ Some true → (j : ℕ) × LeadsOn edges i j ×
    (slice_get old j ≡ Some true)

-- each flag that was set stays set
abbrev pub KeepsFlags : List Bool → List Bool → Type 0
KeepsFlags old new = (i : ℕ) → slice_get old i ≡ Some true → slice_get new i ≡ Some true

-- for each edge from the n-th on, the first world is flagged if the second is
abbrev pub AreBack : List Edge → List Bool → ℕ → Type 0
AreBack edges flags n = (k : ℕ) (e : Edge) → n ≤ k → slice_get edges k ≡ Some e →
    slice_get flags e.to ≡ Some true → slice_get flags e.from ≡ Some true

-- the number of worlds that aren't flagged
abbrev pub unset : List Bool → ℕ
unset [] = 0
unset (true ∷ flags) = unset flags
unset (false ∷ flags) = 1 + unset flags
