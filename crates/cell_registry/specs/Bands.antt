-- The bands of numbers that a registry gives: those of fibers, refs and deferreds.
use Rattle.std.specs.Prelude.{◌≡◌, ℕ, ◌<◌, ◌≤◌, List, [], ◌∷◌, ◌⊎◌}
use Rattle.effect_term.specs.declared.reply.Reply.TheVariants as reply
use Rattle.cell_registry.specs.declared.limits.Limits.{Limits}
use Rattle.cell_registry.specs.declared.limits.Band.{Band}
use Rattle.cell_registry.specs.declared.limits.Band.TheVariants.{Fibers, Refs, Deferreds}
use Rattle.cell_registry.specs.declared.call.Call.{Call}
use Rattle.cell_registry.specs.declared.call.Call.TheVariants.{Start, NewRef, NewDeferred}
use Rattle.cell_registry.specs.declared.call.Entry.{Entry}
use Rattle.cell_registry.specs.Cells.{Cells}
use Rattle.cell_registry.specs.Histories.{left}

-- the next number of the band
abbrev pub next_of : Band → Cells → ℕ
next_of Fibers s = s.next_fiber
next_of Refs s = s.next_ref
next_of Deferreds s = s.next_deferred

-- the number of numbers in the band
abbrev pub limit_of : Band → Limits → ℕ
limit_of Fibers k = k.fibers
limit_of Refs k = k.refs
limit_of Deferreds k = k.deferreds

-- the call that takes the next number
abbrev pub claim_of : Band → Call
claim_of Fibers = Start
claim_of Refs = NewRef
claim_of Deferreds = NewDeferred

-- the first number that a call gives; fiber 0 exists from the start
abbrev pub first_of : Band → ℕ
first_of Fibers = 1
first_of Refs = 0
first_of Deferreds = 0

-- the reply to some call in the history was the number n of the band
abbrev pub WasGiven : Band → List Entry → ℕ → Type 0
WasGiven b [] n = ⊥
WasGiven b (e ∷ es) n = ((e.call ≡ claim_of b) × (e.reply ≡ reply.Number n)) ⊎ WasGiven b es n

-- all numbers of the band were given: the next one is the limit, and the history gave each number below it
pub record AreAllGiven (b : Band) (k : Limits) (h : List Entry) : Type 0 where
  pub next : next_of b (left k h) ≡ limit_of b k
  pub each : (n : ℕ) → first_of b ≤ n → n < limit_of b k → WasGiven b h n

-- the number is 0, or the reply to a start in the history
abbrev pub WasBorn : List Entry → ℕ → Type 0
WasBorn h f = (f ≡ 0) ⊎ WasGiven Fibers h f
