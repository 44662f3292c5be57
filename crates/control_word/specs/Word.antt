-- The control word of a fiber, as a sum of its fields times powers of two.
use Rattle.std.specs.Prelude.{◌≡◌, ℕ, ◌+◌, ◌*◌, ◌/◌, ◌%◌, ◌^◌, ◌-◌, ◌<◌, Bool, true, false, ◌==◌, ℤ, pos}
use Rattle.control_word.specs.declared.control.Control.{Control}
use Rattle.effect_term.specs.declared.reply.Outcome.{Outcome}
use Rattle.effect_term.specs.declared.reply.Outcome.TheVariants.{Succeeded, Errored, Canceled}
use Rattle.effect_term.specs.Values.{IsValue, value_bits}

abbrev pub bit : Bool → ℕ
bit true = 1
bit false = 0

-- each field is in its range
pub record InRange (c : Control) : Type 0 where
  pub count : c.count < 2 ^ 40
  pub depth : c.depth < 2 ^ 8
  pub phase : c.phase < 2 ^ 2
  pub kind : c.kind < 2 ^ 2

-- the packed word
unfoldable pub word_of : Control → ℕ
word_of c = c.count + 2 ^ 40 * c.depth + 2 ^ 48 * c.phase + 2 ^ 50 * c.kind + 2 ^ 52 * bit c.cancel +
    2 ^ 53 * bit c.waited

-- the fields of a number, read as digits at their places
unfoldable pub control_of : ℕ → Control
control_of n = record {
  count = n / 2 ^ 0 % 2 ^ 40;
  depth = n / 2 ^ 40 % 2 ^ 8;
  phase = n / 2 ^ 48 % 2 ^ 2;
  kind = n / 2 ^ 50 % 2 ^ 2;
  cancel = n / 2 ^ 52 % 2 ^ 1 == 1;
  waited = n / 2 ^ 53 % 2 ^ 1 == 1;
}

-- if the number n is a packed word, it was packed from r
abbrev pub IsPackedFrom : ℕ → Control → Type 0
IsPackedFrom n r = (c : Control) → InRange c → word_of c ≡ n → r ≡ c

-- no outcome is set
pub record HasNoOutcome (c : Control) : Type 0 where
  pub kind : c.kind ≡ 0

-- the greatest limit of the number of a fiber's changes
abbrev pub greatest_count : ℕ
greatest_count = 1099511627775

-- the phases
abbrev pub running : ℕ
running = 0

abbrev pub finalizing : ℕ
finalizing = 1

abbrev pub ended : ℕ
ended = 2

-- ---- what each of the owner's calls changes
abbrev pub masked : Control → Control
masked c = record c { count = c.count + 1; depth = c.depth + 1 }

abbrev pub unmasked : Control → Control
unmasked c = record c { count = c.count + 1; depth = c.depth - 1 }

abbrev pub cut : Control → Control
cut c = record c { count = c.count + 1; depth = c.depth + 1; phase = finalizing }

abbrev pub kind_of : Outcome → ℕ
kind_of (Succeeded v) = 1
kind_of (Errored v) = 2
kind_of Canceled = 3

-- the number of an outcome, which has a word of its own
abbrev pub value_of : Outcome → ℤ
value_of (Succeeded v) = v
value_of (Errored v) = v
value_of Canceled = pos 0

abbrev pub finished : Outcome → Control → Control
finished o c = record c { count = c.count + 1; phase = ended; kind = kind_of o }

-- ---- the amounts:
-- whatever the cancel and waited bits are, the word plus the amount (minus it, when a mask is left) is the word with
-- the fields changed
abbrev pub Masks : ℕ → Type 0
Masks k = (c : Control) → InRange c → HasNoOutcome c → c.count < greatest_count → c.depth < 255 →
    (word_of c + k) % 2 ^ 64 ≡ word_of (masked c)

abbrev pub Unmasks : ℕ → Type 0
Unmasks k = (c : Control) → InRange c → HasNoOutcome c → c.count < greatest_count → 0 < c.depth →
    (word_of c + (2 ^ 64 - k)) % 2 ^ 64 ≡ word_of (unmasked c)

abbrev pub Cuts : ℕ → Type 0
Cuts k = (c : Control) → InRange c → HasNoOutcome c → c.count < greatest_count → c.depth ≡ 0 → c.phase ≡ running →
    (word_of c + k) % 2 ^ 64 ≡ word_of (cut c)

abbrev pub Finishes : Bool → Outcome → ℕ → Type 0
Finishes b o k = (c : Control) → InRange c → HasNoOutcome c → c.count < greatest_count → c.phase ≡ bit b →
    (word_of c + k) % 2 ^ 64 ≡ word_of (finished o c)

-- the amount of an end, as a sum: one change, the step to the phase ended, and the kind of the outcome
abbrev pub finish_sum : Bool → Outcome → ℕ
finish_sum b o = 1 + 2 ^ 48 * (ended - bit b) + 2 ^ 50 * kind_of o

-- ---- the word of a value: the value modulo 2 ^ 63
-- if the number n is the word of a value, it is the word of z
abbrev pub IsWordOf : ℕ → ℤ → Type 0
IsWordOf n z = (v : ℤ) → IsValue v → value_bits v ≡ n → z ≡ v
