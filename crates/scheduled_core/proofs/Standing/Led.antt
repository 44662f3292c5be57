-- What moves of one fiber are to the history of all.
use Rattle.std.specs.Prelude.{◌≡◌, ℕ, zero, suc, ◌+◌, List, [], ◌∷◌, ◌++◌}
use mathlib.Core.List.{IsPrefix}
use Rattle.effect_term.specs.declared.reply.Reply.TheVariants.{Done, Number}
use Rattle.fiber_frames.specs.Fiber.{Fiber, child, move}
use Rattle.cell_registry.specs.{declared.call.{Entry.Entry, Call.TheVariants.Start}, Histories.calls_by}
use Rattle.scheduled_core.specs.{declared.wish.Wish.TheVariants.{Alone, Shared}, Stands.wish}

-- n moves without a shared call lead from one state to the other
abbrev pub Later : ℕ → Fiber → Fiber → Type 0
Later zero a g = a ≡ g
Later (suc n) a g = (wish a ≡ Alone) × Later n (move a Done) g

-- n moves whose shared calls are these entries, in order, with their replies, lead from one state to the other
abbrev pub Reaches : ℕ → Fiber → List Entry → Fiber → Type 0
Reaches n a [] g = Later n a g
Reaches n a (e ∷ es) g = (i : ℕ) × (p : ℕ) × (m : Fiber) × Later i a m × (wish m ≡ Shared e.call) × Reaches p (move m e.reply) es g × (n ≡ i + suc p)

-- the fiber f came from one state to another by so many moves, whose calls are the entries that it gained
pub record Led (f : ℕ) (seen : List Entry) (a : Fiber) (now : List Entry) (b : Fiber) (made : ℕ) : Type 0 where
  pub gained : List Entry
  pub seen_more : IsPrefix seen now
  pub own : calls_by f now ≡ calls_by f seen ++ gained
  pub reaches : Reaches made a gained b

-- the last entry seen is a start by the fiber f behind so many moves, and this is its child
pub record Bore (f : ℕ) (seen : List Entry) (a : Fiber) (now : List Entry) (n : ℕ) (c : Fiber) (made : ℕ) : Type 0 where
  pub before : List Entry
  pub parent : Fiber
  pub went : Led f seen a before parent made
  pub wants : wish parent ≡ Shared Start
  pub last : now ≡ before ++ record { by = f; call = Start; reply = Number n } ∷ []
  pub is_child : c ≡ child parent n
