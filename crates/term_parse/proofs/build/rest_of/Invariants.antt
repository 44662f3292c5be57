use Rattle.std.proofs.Common.{◌≡◌, ◌++◌, length}
use Rattle.term_parse.specs.Forms.{AllTerms, sorts, ends, terms_atoms}
use Rattle.term_parse.proofs.build.rest_of.Given as goal

abbrev pub invariant-loop-piece : goal.invariant-loop-piece
invariant-loop-piece l = record { all : AllTerms (sorts l.pieces.items); so_far : ends l.fn.pieces.items ≡ terms_atoms l.terms.items ++ ends l.pieces.items }

abbrev pub decreases-loop-piece : goal.decreases-loop-piece
decreases-loop-piece l = length l.pieces.items
