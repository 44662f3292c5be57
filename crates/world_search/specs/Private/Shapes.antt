-- The lists of a search's graph, and what each step adds to them.
use Rattle.std.specs.Prelude.{◌≡◌, ◌≢◌, ◌⊎◌, ℕ, ◌<◌, Bool, true, false, List, [], ◌∷◌, ◌++◌, length, Some, slice_set}
use Rattle.std.specs.List.{slice_get}
use Rattle.world_search.specs.declared.graphs.Node.{Node}
use Rattle.world_search.specs.declared.graphs.Edge.{Edge}
use Rattle.world_search.specs.declared.graphs.Noted.{Noted}
use Rattle.world_search.specs.declared.graphs.Graph.{Graph}

pub record Shape : Type 0 where
  pub nodes : List Node
  pub edges : List Edge
  pub noted : List Noted
  pub unsettled : List Bool

abbrev pub shape : Graph → Shape
shape g = record {
  nodes = g.nodes.items;
  edges = g.edges.items;
  noted = g.noted.items;
  unsettled = g.unsettled.items;
}

-- the first world alone
abbrev pub begun : Shape
begun = record {
  nodes = record { from = 0; depth = 0; fiber = 0 } ∷ [];
  edges = [];
  noted = [];
  unsettled = true ∷ [];
}

-- one more world, whose entries aren't made yet
abbrev pub with_node : Shape → Node → Shape
with_node s n = record {
  nodes = s.nodes ++ (n ∷ []);
  edges = s.edges;
  noted = s.noted;
  unsettled = s.unsettled ++ (true ∷ []);
}

abbrev pub with_edge : Shape → Edge → Shape
with_edge s e = record {
  nodes = s.nodes;
  edges = s.edges ++ (e ∷ []);
  noted = s.noted;
  unsettled = s.unsettled;
}

abbrev pub with_noted : Shape → Noted → Shape
with_noted s n = record {
  nodes = s.nodes;
  edges = s.edges;
  noted = s.noted ++ (n ∷ []);
  unsettled = s.unsettled;
}

abbrev pub with_quiet : Shape → ℕ → Shape
with_quiet s i = record {
  nodes = s.nodes;
  edges = s.edges;
  noted = s.noted;
  unsettled = slice_set s.unsettled i false;
}

-- nothing was added, or the world `to` was added with the next number
abbrev pub Keeps : Shape → Shape → Node → ℕ → Type 0
Keeps s t n to = (t ≡ s) ⊎ ((to ≡ length s.nodes) × (t ≡ with_node s n))

-- the fault is among these
abbrev pub IsNotedIn : List Noted → ℕ → Type 0
IsNotedIn noted fault = (k : ℕ) × (n : Noted) × (slice_get noted k ≡ Some n) × (n.fault ≡ fault)

-- no fault is noted twice
abbrev pub AreNotedOnce : List Noted → Type 0
AreNotedOnce noted = (k l : ℕ) (m n : Noted) → k < l → slice_get noted k ≡ Some m → slice_get noted l ≡ Some n →
    m.fault ≢ n.fault

-- the fault was noted before and nothing was added, or the fault was added as the last one
abbrev pub Notes : Shape → Shape → ℕ → Node → Type 0
Notes s t fault n = (IsNotedIn s.noted fault × (t ≡ s)) ⊎
    ((IsNotedIn s.noted fault → ⊥) × (t ≡ with_noted s (record { fault = fault; node = n })))
