-- The registry that the words of a closed table show.
use Rattle.std.specs.Prelude.{◌≡◌, ℕ, ◌<◌, List}
use lib.ListN.{get_elem?}
use mathlib.Core.Option.{some}
use Rattle.std.specs.Prelude.{length, slice_index_or}
use Rattle.effect_term.specs.declared.reply.Outcome.{Outcome}
use Rattle.control_word.specs.Word.{InRange}
use Rattle.cell_registry.specs.declared.limits.Limits.{Limits}
use Rattle.cell_registry.specs.declared.cell.Stage.TheVariants.{Ended}
use Rattle.cell_registry.specs.declared.cell.Cell.{Cell}
use Rattle.cell_registry.specs.Cells.{AreLimits, Cells, IsSound}
use Rattle.cell_registry.specs.Words.{HoldsOutcome, Leaves, cell_word, control}

-- the fiber's word and its value word show this cell
pub record IsShown (n m : ℕ) (c : Cell) : Type 0 where
  pub range : InRange (control c)
  pub word : cell_word c ≡ n
  pub value : (o : Outcome) → c.stage ≡ Ended o → HoldsOutcome m o

abbrev pub ShowsCell : ℕ → ℕ → Cell → Type 0
ShowsCell n m d = (c : Cell) → IsShown n m c → d ≡ c

-- the words show this registry, within these limits
pub record Shows (k : Limits) (words : List ℕ) (s : Cells) : Type 0 where
  pub limits : AreLimits k
  pub sound : IsSound k s
  pub leaves : Leaves words s

-- the copy is the first n of these words
pub record Copies (words : List ℕ) (n : ℕ) (copy : List ℕ) : Type 0 where
  pub long : length copy ≡ n
  pub each : (i : ℕ) → i < n → get_elem? words i ≡ some (slice_index_or copy i 0)
