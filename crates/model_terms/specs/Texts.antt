-- The texts of terms.
use Rattle.std.specs.Prelude.{ℕ, List, []}
use Rattle.effect_term.specs.Kinds.{WellKinded}
use Rattle.effect_term.specs.declared.term.Term.{Term}
use Rattle.term_parse.specs.Atoms.{atoms_of}
use Rattle.term_parse.specs.Grammar.{Spells}

-- the grammar of terms spells this text, as a term that is closed and well kinded
pub record IsTermText (text : List ℕ) : Type 0 where
  pub term : Term
  pub spelled : Spells text (atoms_of term)
  pub closed : WellKinded [] term
