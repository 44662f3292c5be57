-- The reasons of a text under a schedule.
use Rattle.std.specs.Prelude.{◌≡◌, ℕ, List, Ok}
use Rattle.cell_registry.specs.declared.limits.Limits.{Limits}
use Rattle.derived_ops.specs.Expansion.{code_of}
use Rattle.derived_ops.specs.Reading.{source_of}
use Rattle.effect_term.specs.declared.term.Term.{Term}
use Rattle.effect_term.specs.Programs.{IsProgram}
use Rattle.term_parse.specs.Atoms.{atoms_of}
use Rattle.term_parse.specs.Reading.{reading}
use Rattle.reasons.specs.Refusals.{IsTextReasons}
use Rattle.reasons.specs.Whys.{IsUnendedText}

-- why the text is refused, or why each fiber of its program hasn't ended
pub data IsReplayReasons (schedule : List ℕ) (limits : Limits) : List ℕ → List ℕ → Type 0 where
  unreplayed : (text told : List ℕ) → IsTextReasons text told → IsReplayReasons schedule limits text told
  replayed : (text told : List ℕ) (t : Term) → reading text ≡ Ok (atoms_of t) → IsProgram t →
      IsUnendedText (code_of (source_of t)) limits schedule told → IsReplayReasons schedule limits text told
