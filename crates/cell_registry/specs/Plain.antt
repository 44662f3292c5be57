-- What a call of a registry for one thread does.
use Rattle.std.specs.Prelude.{◌≡◌, ◌<◌, ℕ, List, Some, None}
use mathlib.Core.List.{IsPrefix}
use Rattle.effect_term.specs.declared.reply.Reply.{Reply}
use Rattle.cell_registry.specs.declared.limits.Limits.{Limits}
use Rattle.cell_registry.specs.declared.limits.CellError.{CellError}
use Rattle.cell_registry.specs.declared.call.Call.{Call}
use Rattle.cell_registry.specs.declared.call.Entry.{Entry}
use Rattle.cell_registry.specs.Histories.{left, IsLegal, calls_by}
use Rattle.cell_registry.specs.Rule.{Has}
use Rattle.cell_registry.specs.Cells.{AreLimits, Cells, opening, after, reply_of, IsAllowed, refusal, IsSound}

-- what contracts see of a registry for one thread: its limits, and the cells that its calls have left
pub record PlainView : Type 0 where
  pub limits : Limits
  pub state : Cells

-- a new registry
abbrev pub new_plain : Limits → PlainView
new_plain k = record { limits = k; state = opening k }

-- what holds of every such registry: its limits are allowed, and it is within them
pub record IsPlain (r : PlainView) : Type 0 where
  pub limits : AreLimits r.limits
  pub sound : IsSound r.limits r.state

-- the caller was started, and the condition of its call holds
pub record MayCall (r : PlainView) (by : ℕ) (c : Call) : Type 0 where
  pub born : by < r.state.next_fiber
  pub allowed : IsAllowed r.limits r.state by c

-- the call isn't refused: its reply, and the registry after it
pub record IsMade (old new : PlainView) (by : ℕ) (c : Call) (answer : Reply) : Type 0 where
  pub room : refusal old.limits old.state by c ≡ None
  pub reply : answer ≡ reply_of old.state by c
  pub left : new ≡ record old { state = after old.state by c }

-- the call is refused for this reason, and changes nothing
pub record IsRefused (old new : PlainView) (by : ℕ) (c : Call) (e : CellError) : Type 0 where
  pub why : refusal old.limits old.state by c ≡ Some e
  pub same : new ≡ old

-- at the end, the registry is r: some legal history leaves it, begins with all that was seen and has no further call by
-- the fibers fs
pub record IsLeftPlain (k : Limits) (fs : List ℕ) (seen : List Entry) (r : PlainView) : Type 0 where
  pub history : List Entry
  pub begins : IsPrefix seen history
  pub legal : IsLegal k history
  pub own : (g : ℕ) → Has fs g → calls_by g history ≡ calls_by g seen
  pub plain : r ≡ record { limits = k; state = left k history }
