use Rattle.std.proofs.Common.{◌≡◌, ◌+◌, ◌*◌, ◌≤◌, [], ◌∷◌, ◌++◌, length, drop, vec_len}
use Rattle.term_parse.{specs.{Atoms.ended, Numbers.NumbersFit, PrintedParts.{terms_spelled, terms_atoms}, Spelling.more_spelling}, proofs.Weights.weight}
use Rattle.term_parse.proofs.Weights.{terms_weight, piece_weight, pieces_weight}
use Rattle.term_parse.proofs.printer.+writing.Given as goal

abbrev pub decreases-write_term : goal.decreases-write_term
decreases-write_term l = 20 * weight l.term.now

abbrev pub decreases-write_parts : goal.decreases-write_parts
decreases-write_parts l = 20 * (pieces_weight l.pieces.now + terms_weight l.more.now) + length l.parts.now + 1

abbrev pub decreases-write_piece : goal.decreases-write_piece
decreases-write_piece l = 20 * piece_weight l.piece + 1

abbrev pub decreases-write_more : goal.decreases-write_more
decreases-write_more l = 20 * terms_weight l.terms.now + 1

-- what is written so far, and the rest, is all; and the numbers of all fit where those of the rest do
abbrev pub invariant-write_more-loop-term : goal.invariant-write_more-loop-term
invariant-write_more-loop-term l = record {
  text : l.out.items ++ more_spelling l.around (terms_spelled (drop l.term-index l.terms)) ≡ l.fn.out.items ++ more_spelling l.around (terms_spelled l.terms);
  numbers : NumbersFit (terms_atoms (drop l.term-index l.terms) (ended ∷ [])) → NumbersFit (terms_atoms l.terms (ended ∷ []));
  longer : vec_len l.fn.out ≤ vec_len l.out;
}
