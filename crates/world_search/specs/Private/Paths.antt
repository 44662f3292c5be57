-- The schedules that lead to the nodes of a search.
use Rattle.std.specs.Prelude.{◌≡◌, ℕ, ◌+◌, ◌<◌, List, [], ◌∷◌, ◌++◌, Some}
use Rattle.std.specs.List.{slice_get}
use Rattle.world_search.specs.declared.graphs.Node.{Node}

-- a node with entries before it has a parent, which is one less deep
abbrev pub IsChained : List Node → Node → Type 0
IsChained nodes n = 0 < n.depth → (p : Node) × (slice_get nodes n.from ≡ Some p) × (n.depth ≡ p.depth + 1)

abbrev pub AreChained : List Node → Type 0
AreChained nodes = (i : ℕ) (n : Node) → slice_get nodes i ≡ Some n → IsChained nodes n

-- the schedule has the entries of the nodes that lead to this node, in order
pub data IsPath (nodes : List Node) : Node → List ℕ → Type 0 where
  Root : (n : Node) (s : List ℕ) → n.depth ≡ 0 → s ≡ [] → IsPath nodes n s
  Then : (n p : Node) (s t : List ℕ) → slice_get nodes n.from ≡ Some p → n.depth ≡ p.depth + 1 →
      IsPath nodes p s → t ≡ s ++ (n.fiber ∷ []) → IsPath nodes n t
