-- The text of a form before its parts, and how a sequence goes on.
use Rattle.std.specs.Prelude.{ℕ, List, ◌++◌, Option, Some, None, codes}
use Rattle.std.specs.Fmt.{decimal}
use Rattle.derived_ops.specs.CoreText.{value_text}
use Rattle.derived_ops.specs.declared.core_word.CoreWord.{CoreWord}
use Rattle.derived_ops.specs.declared.core_word.CoreWord.TheVariants as word
use Rattle.derived_ops.specs.declared.core_word.Rest as rests
use Rattle.derived_ops.specs.Tree.{Maker, New_ref, New_deferred, Turns, Times, Always, Rest, More}

-- the text before the part that has the cell, and the text before the part of a loop
abbrev pub maker_text : Maker → ℕ → List ℕ
maker_text (New_ref v) r = codes "(ref r" ++ decimal r ++ (codes " " ++ value_text v)
maker_text New_deferred d = codes "(deferred d" ++ decimal d

abbrev pub turns_text : Turns → List ℕ
turns_text (Times v) = codes "(repeat " ++ value_text v
turns_text Always = codes "(forever"

-- if this word continues a sequence: what remains behind the first part, and the distance from that part to it
abbrev pub further : Rest → CoreWord → Option (rests.Rest × ℕ)
further More (word.Seq w j) = Some (w, j)
further _ _ = None
