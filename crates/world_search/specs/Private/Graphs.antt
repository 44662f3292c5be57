-- What holds of the worlds, faults and entries that a search has met.
use Rattle.std.specs.Prelude.{◌≡◌, ◌≢◌, ◌⊎◌, ℕ, ◌+◌, ◌<◌, ◌≤◌, Bool, true, false, List, length, Some, Result, Ok, Err}
use Rattle.std.specs.List.{slice_get}
use Rattle.world_search.specs.declared.graphs.Node.{Node}
use Rattle.world_search.specs.declared.graphs.Edge.{Edge}
use Rattle.world_search.specs.declared.graphs.Noted.{Noted}
use Rattle.world_search.specs.declared.expanding.Came.{Came}
use Rattle.world_search.specs.declared.expanding.Came.TheVariants as came
use Rattle.world_search.specs.Lists.{IsMore}
use Rattle.world_search.specs.Private.Shapes.{AreNotedOnce, Shape}

-- the node is an entry at one of these worlds, of a fiber below `most`, with a depth of at most `longest`
pub record CanEnter (most longest : ℕ) (nodes : List Node) (n : Node) : Type 0 where
  pub parent : Node
  pub above : slice_get nodes n.from ≡ Some parent
  pub deeper : n.depth ≡ parent.depth + 1
  pub short : n.depth ≤ longest
  pub small : n.fiber < most

-- no node is deeper than its number
abbrev pub AreShallow : List Node → Type 0
AreShallow nodes = (i : ℕ) (n : Node) → slice_get nodes i ≡ Some n → n.depth ≤ i

-- each of the `many` worlds was met, and no node is deeper than its number
pub record IsSnug (many : ℕ) (s : Shape) : Type 0 where
  pub even : length s.nodes ≡ many
  pub shallow : AreShallow s.nodes

-- each of the `many` worlds was met, or each but the last, which is `to` and below `most`
abbrev pub IsNearly : (many to most : ℕ) → Shape → Type 0
IsNearly many to most s =
    AreShallow s.nodes ×
    ((length s.nodes ≡ many) ⊎ ((to ≡ length s.nodes) × (many ≡ length s.nodes + 1) × (to < most)))

-- there are at least `worlds` worlds, or more than `entries` worlds
abbrev pub IsStopped : (worlds entries many : ℕ) → Type 0
IsStopped worlds entries many = (worlds ≤ many) ⊎ (entries < many)

-- the worlds, the faults and the lists of the graph are extended
pub record Grows {W E : Type 0} (ws vs : List W) (es ds : List E) (s t : Shape) : Type 0 where
  pub worlds : IsMore ws vs
  pub faults : IsMore es ds
  pub nodes : IsMore s.nodes t.nodes
  pub edges : IsMore s.edges t.edges
  pub noted : IsMore s.noted t.noted

-- each flag but the i-th stays
abbrev pub SameFlags : ℕ → List Bool → List Bool → Type 0
SameFlags i old new = (j : ℕ) → j ≢ i → j < length old → slice_get new j ≡ slice_get old j

-- the result of some entries and of one more, from the results of both
abbrev pub worse_of : Came → Came → Came
worse_of came.Lost other = came.Lost
worse_of came.Leaves came.Lost = came.Lost
worse_of came.Leaves came.Leaves = came.Leaves
worse_of came.Leaves came.Stays = came.Leaves
worse_of came.Stays other = other

module _ {W E R : Type 0} (step : W → ℕ → Result W E) (report : W → R) (most longest : ℕ) (ws : List W)
    (es : List E) where
  -- the entry of this node has this result
  pub record IsEntry (nodes : List Node) (n : Node) (y : Result W E) : Type 0 where
    pub how : CanEnter most longest nodes n
    pub world : W
    pub at : slice_get ws n.from ≡ Some world
    pub leads : step world n.fiber ≡ y

  -- this is the first world, or the result of the node's entry
  abbrev pub IsReached : List Node → Node → Result W E → Type 0
  IsReached nodes n y = ((n.depth ≡ 0) × (w : W) × (slice_get ws 0 ≡ Some w) × (y ≡ Ok w)) ⊎ IsEntry nodes n y

  -- some entry leads along this edge
  pub record IsEdge (nodes : List Node) (e : Edge) : Type 0 where
    pub low : (e.from < length nodes) × (e.to < length nodes)
    pub world : W
    pub next : W
    pub fiber : ℕ
    pub at : slice_get ws e.from ≡ Some world
    pub to : slice_get ws e.to ≡ Some next
    pub leads : step world fiber ≡ Ok next

  -- the entry of this node ends in this fault
  pub record IsNoted (nodes : List Node) (n : Noted) : Type 0 where
    pub why : E
    pub at : slice_get es n.fault ≡ Some why
    pub entry : IsEntry nodes n.node (Err why)

  -- this fault was noted
  abbrev pub IsTold : Shape → E → Type 0
  IsTold s e = (k : ℕ) × (n : Noted) × (slice_get s.noted k ≡ Some n) × (slice_get es n.fault ≡ Some e)

  -- a world or fault that was met
  abbrev pub IsMet : Shape → Result W E → Type 0
  IsMet s (Ok w) = (j : ℕ) × (j < length s.nodes) × (slice_get ws j ≡ Some w)
  IsMet s (Err e) = IsTold s e

  -- the entry at world number i changes nothing, or leads along an edge to a world of the same report
  abbrev pub Stays : Shape → ℕ → W → Result W E → Type 0
  Stays s i w y = (y ≡ Ok w) ⊎
      ((k : ℕ) × (e : Edge) × (x : W) × (slice_get s.edges k ≡ Some e) × (e.from ≡ i) ×
      (slice_get ws e.to ≡ Some x) × (y ≡ Ok x) × (report x ≡ report w))

  -- the entry changes the report, or ends in a fault
  abbrev pub Leaves : W → Result W E → Type 0
  Leaves w (Ok x) = report x ≢ report w
  Leaves w (Err e) = Unit {0}

  abbrev pub IsQuiet : Shape → ℕ → Type 0
  IsQuiet s i = (w : W) → slice_get ws i ≡ Some w → (f : ℕ) → Stays s i w (step w f)

  pub record Fits (s : Shape) : Type 0 where
    pub some : 0 < length s.nodes
    pub known : length s.nodes ≤ length ws
    pub nodes : (i : ℕ) (n : Node) (w : W) → slice_get s.nodes i ≡ Some n → slice_get ws i ≡ Some w →
        IsReached s.nodes n (Ok w)
    pub edges : (k : ℕ) (e : Edge) → slice_get s.edges k ≡ Some e → IsEdge s.nodes e
    pub noted : (k : ℕ) (n : Noted) → slice_get s.noted k ≡ Some n → IsNoted s.nodes n
    pub once : AreNotedOnce s.noted
    pub unsettled : length s.unsettled ≡ length s.nodes
    pub quiet : (i : ℕ) → slice_get s.unsettled i ≡ Some false → IsQuiet s i

  -- the result of each entry at world number i was met; if the world isn't quiet, an entry changes its report or ends
  -- in a fault
  pub record IsDone (s : Shape) (i : ℕ) : Type 0 where
    pub met : (w : W) → slice_get ws i ≡ Some w → (f : ℕ) → IsMet s (step w f)
    pub leaves : slice_get s.unsettled i ≡ Some true → (w : W) → slice_get ws i ≡ Some w → (f : ℕ) × Leaves w (step w f)

  -- the result of the entry at world number i
  abbrev pub ComesTo : Shape → ℕ → W → Came → Result W E → Type 0
  ComesTo s i w came.Stays y = IsMet s y × Stays s i w y
  ComesTo s i w came.Leaves y = IsMet s y × Leaves w y
  ComesTo s i w came.Lost y = Unit {0}

  -- the result of the first n entries at world number i
  abbrev pub CameSo : Shape → ℕ → W → Came → ℕ → Type 0
  CameSo s i w came.Stays n = (f : ℕ) → f < n → IsMet s (step w f) × Stays s i w (step w f)
  CameSo s i w came.Leaves n = ((f : ℕ) → f < n → IsMet s (step w f)) × ((f : ℕ) × Leaves w (step w f))
  CameSo s i w came.Lost n = Unit {0}
