-- Which terms are codes.
use Rattle.std.specs.Prelude.{◌≡◌}
use Rattle.effect_term.specs.declared.term.Term.{Term}
use Rattle.effect_term.specs.Programs.{IsProgram}
use Rattle.derived_ops.specs.Tree.{Tree}
use Rattle.derived_ops.specs.Reading.{source_of}
use Rattle.derived_ops.specs.Expansion.{code_of}

-- the term is the expansion of some program
unfoldable pub IsCode : Tree → Type 0
IsCode t = (p : Term) × IsProgram p × (t ≡ code_of (source_of p))
