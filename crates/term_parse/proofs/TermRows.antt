-- The terms of a `seq` behind its first two, read at the items of their `Vec`.
use Rattle.std.proofs.Common.{◌≡◌, ◌++◌, List, ◌∷◌, ap, refl, ◌∙◌, append_assoc}
use Rattle.effect_term.specs.declared.term.Term.{Row_of-Term, end_of-Term, more_of-Term, items-the_row-Term}
use Rattle.term_parse.specs.{Atoms.{Atom, atoms_of, row_atoms}, Spelling.{spelling, row_spellings}, PrintedParts.{terms_spelled, terms_atoms}}

pub row_spellings_items : (m : _) (k : Row_of-Term m) → row_spellings k ≡ terms_spelled (items-the_row-Term m k)
row_spellings_items _ end_of-Term = refl
row_spellings_items _ (more_of-Term t rest) = ap (λ fs. spelling t ∷ fs) (row_spellings_items _ rest)

pub row_atoms_items : (m : _) (k : Row_of-Term m) (end : List Atom) → row_atoms k ++ end ≡ terms_atoms (items-the_row-Term m k) end
row_atoms_items _ end_of-Term end = refl
row_atoms_items _ (more_of-Term t rest) end = append_assoc (atoms_of t) (row_atoms rest) end ∙ ap (λ xs. atoms_of t ++ xs) (row_atoms_items _ rest end)
