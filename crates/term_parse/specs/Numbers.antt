-- Numbers in the range of values.
use Rattle.std.specs.Prelude.{List, [], ◌∷◌}
use Rattle.effect_term.specs.declared.term.Operand.TheVariants.{Number, Named}
use Rattle.effect_term.specs.Values.{IsValue}
use Rattle.term_parse.specs.Atoms.{Atom, word, value, name, ended}

-- each number among these atoms is in the range of values, as each number in a program's term is
abbrev pub NumbersFit : List Atom → Type 0
NumbersFit [] = Unit {0}
NumbersFit (value (Number n) ∷ xs) = IsValue n × NumbersFit xs
NumbersFit (value (Named n) ∷ xs) = NumbersFit xs
NumbersFit (name n ∷ xs) = NumbersFit xs
NumbersFit (word w ∷ xs) = NumbersFit xs
NumbersFit (ended ∷ xs) = NumbersFit xs
