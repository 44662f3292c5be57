-- What follows from every legal history.
use Rattle.std.specs.Prelude.{◌≡◌, ℕ, ◌<◌, ◌≤◌, List, [], ◌∷◌, ◌++◌, ◌⊎◌}
use Rattle.effect_term.specs.declared.reply.Outcome.{Outcome}
use Rattle.effect_term.specs.declared.reply.JoinReply.TheVariants as joined
use Rattle.effect_term.specs.declared.reply.Reply.TheVariants as reply
use Rattle.cell_registry.specs.declared.limits.Limits.{Limits}
use Rattle.cell_registry.specs.declared.limits.Band.{Band}
use Rattle.cell_registry.specs.declared.call.Call.TheVariants.{Join}
use Rattle.cell_registry.specs.declared.call.Entry.{Entry}
use Rattle.cell_registry.specs.Histories.{left}
use Rattle.cell_registry.specs.Bands.{next_of, limit_of, claim_of, WasGiven, WasBorn}
use Rattle.cell_registry.specs.Cancellation.{CutsAfterCancel}

-- each caller is fiber 0, or the reply to an earlier start
abbrev pub CallersWereBorn : List Entry → Type 0
CallersWereBorn h = (before rest : List Entry) (e : Entry) → h ≡ before ++ e ∷ rest → WasBorn before e.by

-- the reply to some join of the fiber f was that f had ended with the outcome o
abbrev pub WasToldEnd : List Entry → ℕ → Outcome → Type 0
WasToldEnd [] f o = ⊥
WasToldEnd (e ∷ es) f o = ((e.call ≡ Join f) × (e.reply ≡ reply.Join (joined.Ended o))) ⊎ WasToldEnd es f o

-- all joins of a fiber that find its end give the same outcome
abbrev pub JoinsAgree : List Entry → Type 0
JoinsAgree h = (f : ℕ) (o p : Outcome) → WasToldEnd h f o → WasToldEnd h f p → o ≡ p

-- no number of a band is given a second time
abbrev pub GivesOnce : List Entry → Type 0
GivesOnce h = (b : Band) (n : ℕ) (before rest : List Entry) (e : Entry) → h ≡ before ++ e ∷ rest →
    e.call ≡ claim_of b → e.reply ≡ reply.Number n → WasGiven b before n → ⊥

-- what a legal history says of its entries: who called, where cuts are, what joins find, and which numbers are given.
-- The fibers below the next number are those that the history's starts gave: no other call adds a fiber
pub record IsTold (k : Limits) (h : List Entry) : Type 0 where
  pub callers : CallersWereBorn h
  pub cuts : CutsAfterCancel h
  pub outcomes : JoinsAgree h
  pub given : (b : Band) (n : ℕ) → WasGiven b h n → n < limit_of b k
  pub once : GivesOnce h
  pub born : (f : ℕ) → f < (left k h).next_fiber → WasBorn h f
  pub next : (f : ℕ) → WasBorn h f → f < (left k h).next_fiber
  pub below : (b : Band) (n : ℕ) → WasGiven b h n → n < next_of b (left k h)
  pub most : (b : Band) → next_of b (left k h) ≤ limit_of b k
