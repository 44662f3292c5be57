-- What the word of a fiber tells.
use Rattle.cell_registry.proofs.Prelude.{◌≡◌, Bool, true, false, refl, sym, ap, ◌∙◌, arith, ℤ, pos, ℕ, eqb, ◌%◌, ◌^◌, Outcome, Succeeded, Errored, Canceled}
use Rattle.cell_registry.proofs.Prelude.{IsValue, value_bits, bits_value, bits_lt, back, Control, kind_of, value_of, Stage, Running, Ended, Cell, cancel_reply}
use Rattle.cell_registry.proofs.Prelude.{join_reply, control, phase_at, kind_at, has_ended, HoldsOutcome}
use Rattle.effect_term.specs.declared.reply.CancelReply.{CancelReply}
use Rattle.effect_term.specs.declared.reply.JoinReply.{JoinReply}

pub ended_reply : (g : Stage) (b : Bool) → phase_at g ≡ 2 → CancelReply.Ended ≡ cancel_reply g b
ended_reply (Ended o) b e = refl
ended_reply _ b e = absurd (omega arith)

pub already_reply : (g : Stage) (b : Bool) → (phase_at g ≡ 2 → ⊥) → b ≡ true → CancelReply.Already ≡ cancel_reply g b
already_reply (Ended o) b n e = absurd (n refl)
already_reply _ b n e = rw e refl

pub asked_reply : (g : Stage) (b : Bool) → (phase_at g ≡ 2 → ⊥) → b ≡ false → CancelReply.Asked ≡ cancel_reply g b
asked_reply (Ended o) b n e = absurd (n refl)
asked_reply _ b n e = rw e refl

pub control-phase : (r : Control) (c : Cell) → r ≡ control c → phase_at c.stage ≡ r.phase
unfolding control
control-phase r c e = sym (ap (λ (x : Control). x.phase) e)

pub control-cancel : (r : Control) (c : Cell) → r ≡ control c → c.request ≡ r.cancel
unfolding control
control-cancel r c e = sym (ap (λ (x : Control). x.cancel) e)

pub control-kind : (r : Control) (c : Cell) → r ≡ control c → kind_at c.stage ≡ r.kind
unfolding control
control-kind r c e = sym (ap (λ (x : Control). x.kind) e)

-- ---- the stage of a fiber that has ended, and of one that hasn't
pub ended_phase : (g : Stage) → eqb (phase_at g) 2 ≡ has_ended g
ended_phase Running = refl
ended_phase _ = refl

pub waits_reply : (g : Stage) → has_ended g ≡ false → JoinReply.Waits ≡ join_reply g
waits_reply (Ended o) n = cc
waits_reply _ n = refl

-- the outcome of a fiber that has ended
pub outcome_of : (g : Stage) → has_ended g ≡ true → (o : Outcome) × (g ≡ Ended o)
outcome_of (Ended o) e = (o, refl)
outcome_of _ e = cc

-- ---- the outcome that two words tell
pub succeeded_of : (o : Outcome) (z : ℤ) → kind_of o ≡ 1 → z ≡ value_of o → Succeeded z ≡ o
succeeded_of (Succeeded v) z k e = ap Succeeded e
succeeded_of _ z k e = absurd (omega arith)

pub errored_of : (o : Outcome) (z : ℤ) → kind_of o ≡ 2 → z ≡ value_of o → Errored z ≡ o
errored_of (Errored v) z k e = ap Errored e
errored_of _ z k e = absurd (omega arith)

pub canceled_of : (o : Outcome) → (kind_of o ≡ 1 → ⊥) → (kind_of o ≡ 2 → ⊥) → Canceled ≡ o
canceled_of (Succeeded v) s e = absurd (s refl)
canceled_of (Errored v) s e = absurd (e refl)
canceled_of Canceled s e = refl

-- the value of a word whose 63 bits are a value's
pub told : (m : ℕ) (v : ℤ) → IsValue v → m % 2 ^ 63 ≡ value_bits v → bits_value (m % 2 ^ 63) ≡ v
told m v h e = ap bits_value e ∙ back v h

low : (m : ℕ) (v : ℤ) → m ≡ value_bits v → m % 2 ^ 63 ≡ value_bits v
low m v e = let small = bits_lt v in omega arith

-- the number of an outcome is told by its value word
pub value_is : (m : ℕ) (o : Outcome) → HoldsOutcome m o → bits_value (m % 2 ^ 63) ≡ value_of o
value_is m (Succeeded v) h = told m v h.0 (low m v h.1)
value_is m (Errored v) h = told m v h.0 (low m v h.1)
value_is m Canceled h = told m (pos 0) (omega arith) (low m (pos 0) h.1)
