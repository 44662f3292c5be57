-- The words of the table, and the registry that leaves them.
use Rattle.std.specs.Prelude.{◌≡◌, ℕ, ◌+◌, ◌%◌, ◌^◌, List, ◌∷◌, ◌++◌, length, map, Bool, true, false, Option, Some}
use Rattle.std.specs.Prelude.{None, slice_index_or, ℤ}
use Rattle.effect_term.specs.declared.reply.Outcome.{Outcome}
use Rattle.effect_term.specs.declared.reply.CancelReply.{CancelReply}
use Rattle.effect_term.specs.Values.{value_bits, bits_value}
use Rattle.control_word.specs.declared.control.Control.{Control}
use Rattle.control_word.specs.Word.{word_of, kind_of, value_of, InRange}
use Rattle.cell_registry.specs.declared.limits.Limits.{Limits}
use Rattle.cell_registry.specs.declared.cell.Stage.{Stage}
use Rattle.cell_registry.specs.declared.cell.Stage.TheVariants.{Running, Finalizing, Ended}
use Rattle.cell_registry.specs.declared.cell.Cell.{Cell}
use Rattle.cell_registry.specs.Cells.{Cells, cell_of, ref_of, cancel_reply, OutcomeFits, ValueFits}

-- ---- the word of a fiber
abbrev pub phase_at : Stage → ℕ
phase_at Running = 0
phase_at Finalizing = 1
phase_at (Ended o) = 2

abbrev pub kind_at : Stage → ℕ
kind_at Running = 0
kind_at Finalizing = 0
kind_at (Ended o) = kind_of o

abbrev pub has_ended : Stage → Bool
has_ended Running = false
has_ended Finalizing = false
has_ended (Ended o) = true

-- the fields of a cell, as its word has them
unfoldable pub control : Cell → Control
control c = record {
  count = c.count;
  depth = c.depth;
  phase = phase_at c.stage;
  kind = kind_at c.stage;
  cancel = c.request;
  waited = c.waited;
}

abbrev pub cell_word : Cell → ℕ
cell_word c = word_of (control c)

-- ---- the word of a deferred: 0 while it is empty, else the 63 bits of its value under a bit of their own
abbrev pub deferred_word : Option ℤ → ℕ
deferred_word None = 0
deferred_word (Some v) = 2 ^ 63 + value_bits v

-- ---- the value word of a fiber
-- its place, behind all words of the other kinds
abbrev pub value_place : Limits → ℕ → ℕ
value_place k f = f + (3 + k.fibers + k.refs + k.deferreds)

-- n is the value word of a fiber that ended with this outcome, whose number is in range
abbrev pub HoldsOutcome : ℕ → Outcome → Type 0
HoldsOutcome n o = OutcomeFits o × (n ≡ value_bits (value_of o))

-- ---- the words that a registry leaves:
-- the next number of each band, then a word for each fiber, for each ref and for each deferred, and last a value word
-- for each fiber. A ref's value is its word modulo 2 ^ 63. The value word of a fiber that has ended has the bits of its
-- outcome's number. The calls don't determine the value word of any other fiber: the fiber's pass knows it
-- (`StoredLast` of the rule)
pub record Leaves (words : List ℕ) (s : Cells) : Type 0 where
  pub raw : List ℕ
  pub values : List ℕ
  pub words_are : words ≡ s.next_fiber ∷ s.next_ref ∷ s.next_deferred ∷
      (map cell_word s.cells ++ (raw ++ (map deferred_word s.deferreds ++ values)))
  pub long : length raw ≡ length s.refs
  pub refs : (r : ℕ) → slice_index_or raw r 0 % 2 ^ 63 ≡ value_bits (ref_of s r)
  pub many : length values ≡ length s.cells
  pub ended : (f : ℕ) (o : Outcome) → (cell_of s f).stage ≡ Ended o →
      slice_index_or values f 0 ≡ value_bits (value_of o)

-- the value of a ref with this word
abbrev pub ref_value : ℕ → ℤ
ref_value n = bits_value (n % 2 ^ 63)

-- ---- the replies that words give
abbrev pub TellsCancel : ℕ → CancelReply → Type 0
TellsCancel n r = (c : Cell) → InRange (control c) → cell_word c ≡ n → r ≡ cancel_reply c.stage c.request

abbrev pub TellsEnd : ℕ → Bool → Type 0
TellsEnd n b = (c : Cell) → InRange (control c) → cell_word c ≡ n → b ≡ has_ended c.stage

-- the outcome of a fiber that has ended, from its word n and its value word m
abbrev pub TellsOutcome : ℕ → ℕ → Outcome → Type 0
TellsOutcome n m p = (c : Cell) (o : Outcome) → InRange (control c) → cell_word c ≡ n → c.stage ≡ Ended o →
    HoldsOutcome m o → p ≡ o

abbrev pub TellsLook : ℕ → Bool → Type 0
TellsLook n b = (c : Cell) → InRange (control c) → cell_word c ≡ n → b ≡ c.request

abbrev pub TellsRead : ℕ → Option ℤ → Type 0
TellsRead n o = (x : Option ℤ) → ValueFits x → deferred_word x ≡ n → o ≡ x
