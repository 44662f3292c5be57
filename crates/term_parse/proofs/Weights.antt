-- How much of a term the printer has left to write: the number of its atoms.
use Rattle.std.proofs.Common.{◌≡◌, ◌+◌, ℕ, List, [], ◌∷◌, length, Option, Some, None, ap, arith, length-append}
use Rattle.effect_term.specs.declared.term.Term.{Term}
use Rattle.term_parse.specs.{declared.{printer.PrintedPart.PrintedPart, table.Word.Word}, Atoms.{Atom, word, ended, atoms_of}, PrintedParts.pieces_atoms}
use Rattle.term_parse.specs.PrintedParts.{terms_atoms}
use Rattle.term_parse.specs.declared.printer.PrintedPart.TheVariants as held

abbrev pub weight : Term → ℕ
weight t = length (atoms_of t)

abbrev pub terms_weight : List Term → ℕ
terms_weight [] = 0
terms_weight (t ∷ ts) = weight t + terms_weight ts

abbrev pub piece_weight : PrintedPart → ℕ
piece_weight (held.Value v) = 1
piece_weight (held.Name n) = 1
piece_weight (held.Term t) = weight t.now

abbrev pub pieces_weight : List (Option PrintedPart) → ℕ
pieces_weight [] = 0
pieces_weight (Some p ∷ ps) = piece_weight p + pieces_weight ps
pieces_weight (None ∷ ps) = 0

length-terms_atoms : (ts : List Term) (end : List Atom) → length (terms_atoms ts end) ≡ terms_weight ts + length end
length-terms_atoms [] end = omega arith
length-terms_atoms (t ∷ ts) end = omega (arith, length-append (atoms_of t) (terms_atoms ts end), length-terms_atoms ts end)

length-pieces_atoms : (ps : List (Option PrintedPart)) (end : List Atom) → length (pieces_atoms ps end) ≡ pieces_weight ps + length end
length-pieces_atoms [] end = omega arith
length-pieces_atoms (Some (held.Value v) ∷ ps) end = omega (arith, length-pieces_atoms ps end)
length-pieces_atoms (Some (held.Name n) ∷ ps) end = omega (arith, length-pieces_atoms ps end)
length-pieces_atoms (Some (held.Term t) ∷ ps) end = omega (arith, length-append (atoms_of t.now) (pieces_atoms ps end), length-pieces_atoms ps end)
length-pieces_atoms (None ∷ ps) end = omega arith

-- a form weighs more than its pieces together
pub weight_form : (t : Term) (w : Word) (ps : List (Option PrintedPart)) (ts : List Term) →
    atoms_of t ≡ word w ∷ pieces_atoms ps (terms_atoms ts (ended ∷ [])) → weight t ≡ 2 + (pieces_weight ps + terms_weight ts)
weight_form t w ps ts e = omega (arith, ap length e, length-pieces_atoms ps (terms_atoms ts (ended ∷ [])), length-terms_atoms ts (ended ∷ []))
