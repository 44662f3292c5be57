-- The answers that a search lists, from its graph.
use Rattle.std.specs.Prelude.{◌≡◌, ◌≢◌, ◌⊎◌, ℕ, ◌<◌, ◌≤◌, ◌++◌, false, List, [], ◌∷◌, length, Some}
use Rattle.std.specs.List.{slice_get}
use Rattle.world_search.specs.declared.answers.Answer.{Answer}
use Rattle.world_search.specs.declared.graphs.Node.{Node}
use Rattle.world_search.specs.declared.graphs.Noted.{Noted}
use Rattle.world_search.specs.declared.landings.Landing.{Landing}
use Rattle.world_search.specs.declared.landings.Landing.TheVariants as to
use Rattle.world_search.specs.Lists.{IsIn}
use Rattle.world_search.specs.Private.Paths.{IsPath, IsChained}
use Rattle.world_search.specs.Private.Shapes.{Shape}

-- the answer is a world that isn't unsettled, with the schedule that leads there
pub record IsWorldListed (s : Shape) (a : Answer) : Type 0 where
  pub number : ℕ
  pub node : Node
  pub at : slice_get s.nodes number ≡ Some node
  pub settled : slice_get s.unsettled number ≡ Some false
  pub end : a.end ≡ to.World number
  pub path : IsPath s.nodes node a.schedule.items

-- the answer is a fault, with the schedule that ends in it
pub record IsFaultListed (s : Shape) (a : Answer) : Type 0 where
  pub number : ℕ
  pub noted : Noted
  pub at : slice_get s.noted number ≡ Some noted
  pub end : a.end ≡ to.Fault noted.fault
  pub path : IsPath s.nodes noted.node a.schedule.items

abbrev pub AreListed : Shape → List Answer → Type 0
AreListed s answers = (k : ℕ) (a : Answer) → slice_get answers k ≡ Some a → IsWorldListed s a ⊎ IsFaultListed s a

-- one of the answers has this end
abbrev pub IsNamed : List Answer → Landing → Type 0
IsNamed answers end = (a : Answer) × IsIn a answers × (a.end ≡ end)

-- one more answer, with this end and the schedule that leads to this node
pub record Adds (nodes : List Node) (last : Node) (end : Landing) (old new : List Answer) : Type 0 where
  pub answer : Answer
  pub is : new ≡ old ++ (answer ∷ [])
  pub ends : answer.end ≡ end
  pub path : IsPath nodes last answer.schedule.items

-- none of the answers is a fault
abbrev pub HaveNoFault : List Answer → Type 0
HaveNoFault answers = (k : ℕ) (a : Answer) (j : ℕ) → slice_get answers k ≡ Some a → a.end ≢ to.Fault j

-- only faults were added, and no fault is listed twice
pub record AddsFaults (old new : List Answer) : Type 0 where
  pub each : (k : ℕ) (a : Answer) → length old ≤ k → slice_get new k ≡ Some a → (j : ℕ) × (a.end ≡ to.Fault j)
  pub once : (i j m n : ℕ) (a b : Answer) → i < j → slice_get new i ≡ Some a → slice_get new j ≡ Some b →
      a.end ≡ to.Fault m → b.end ≡ to.Fault n → m ≢ n

abbrev pub AreNotedChained : Shape → Type 0
AreNotedChained s = (k : ℕ) (n : Noted) → slice_get s.noted k ≡ Some n → IsChained s.nodes n.node
