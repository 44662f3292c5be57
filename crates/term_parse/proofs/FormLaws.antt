-- A term's form, by its word and what stands in it.
use Rattle.std.proofs.Common.{◌≡◌, List, [], ◌∷◌, ◌++◌, Option, Some, None, ap, refl, subst, sym, ◌∙◌}
use Rattle.effect_term.specs.declared.term.Term.{Term, TheVariants.Seq'}
use Rattle.term_parse.specs.{declared.{printer.PrintedPart.PrintedPart, table.{Word.Word, Part.Part}}, Atoms.{Atom, word, value, name, ended, atoms_of}}
use Rattle.term_parse.specs.{Language.parts_of, Spelling.{form, spelling}, PrintedParts.{Held, a_value, a_name, inner, held_by, held_in, held_of, term_word}}
use Rattle.term_parse.specs.PrintedParts.{more_of, piece_of, pieces_of, piece_atoms, pieces_atoms, terms_spelled, terms_atoms, Suffice}
use Rattle.term_parse.proofs.TermRows.{row_spellings_items, row_atoms_items}
use Rattle.term_parse.specs.declared.printer.PrintedPart.TheVariants as pieces
use Rattle.term_parse.specs.declared.table.Part.TheVariants as parts
use Rattle.term_parse.specs.Spelling as spelled

-- how this is spelled
abbrev held_spelled : Held → spelled.SpelledPart
held_spelled (a_value v) = spelled.value v
held_spelled (a_name n) = spelled.name n
held_spelled (inner t) = spelled.inner (spelling t)

abbrev all_spelled : List Held → List spelled.SpelledPart
all_spelled [] = []
all_spelled (h ∷ hs) = held_spelled h ∷ all_spelled hs

abbrev held_atoms : Held → List Atom
held_atoms (a_value v) = value v ∷ []
held_atoms (a_name n) = name n ∷ []
held_atoms (inner t) = atoms_of t

abbrev all_atoms : List Held → List Atom → List Atom
all_atoms [] end = end
all_atoms (h ∷ hs) end = held_atoms h ++ all_atoms hs end

-- this and these further terms are what the parts want
abbrev Covers : List Part → List Held → List Term → Type 0
Covers [] hs more = ⊥
Covers (parts.Close ∷ ps) [] more = more ≡ []
Covers (parts.Close ∷ ps) (h ∷ hs) more = ⊥
Covers (parts.More ∷ ps) [] more = Unit {0}
Covers (parts.More ∷ ps) (h ∷ hs) more = ⊥
Covers (parts.Bind k ∷ ps) hs more = Covers ps hs more
Covers (p ∷ ps) (h ∷ hs) more = Covers ps hs more
Covers (p ∷ ps) hs more = ⊥

piece_spelled : (p : PrintedPart) → piece_of p ≡ held_spelled (held_by p)
piece_spelled (pieces.Value v) = refl
piece_spelled (pieces.Name n) = refl
piece_spelled (pieces.Term t) = refl

pieces_spelled : (ps : List (Option PrintedPart)) → pieces_of ps ≡ all_spelled (held_in ps)
pieces_spelled [] = refl
pieces_spelled (Some p ∷ ps) =
    ap (λ x. x ∷ pieces_of ps) (piece_spelled p) ∙ ap (λ xs. held_spelled (held_by p) ∷ xs) (pieces_spelled ps)
pieces_spelled (None ∷ ps) = refl

piece_atoms_held : (p : PrintedPart) → piece_atoms p ≡ held_atoms (held_by p)
piece_atoms_held (pieces.Value v) = refl
piece_atoms_held (pieces.Name n) = refl
piece_atoms_held (pieces.Term t) = refl

pieces_atoms_held : (ps : List (Option PrintedPart)) (end : List Atom) → pieces_atoms ps end ≡ all_atoms (held_in ps) end
pieces_atoms_held [] end = refl
pieces_atoms_held (Some p ∷ ps) end =
    ap (λ xs. xs ++ pieces_atoms ps end) (piece_atoms_held p)
    ∙ ap (λ xs. held_atoms (held_by p) ++ xs) (pieces_atoms_held ps end)
pieces_atoms_held (None ∷ ps) end = refl

suffice_held : (ws : List Part) (ps : List (Option PrintedPart)) (more : List Term) → Covers ws (held_in ps) more →
    Suffice ws ps more
suffice_held [] ps more h = absurd h
suffice_held (parts.Close ∷ ws) [] more h = (tt, h)
suffice_held (parts.Close ∷ ws) (None ∷ ps) more h = (tt, h)
suffice_held (parts.Close ∷ ws) (Some p ∷ ps) more h = absurd h
suffice_held (parts.More ∷ ws) [] more h = tt
suffice_held (parts.More ∷ ws) (None ∷ ps) more h = tt
suffice_held (parts.More ∷ ws) (Some p ∷ ps) more h = absurd h
suffice_held (parts.Bind k ∷ ws) ps more h = suffice_held ws ps more h
suffice_held (parts.Use k ∷ ws) [] more h = absurd h
suffice_held (parts.Use k ∷ ws) (None ∷ ps) more h = absurd h
suffice_held (parts.Use k ∷ ws) (Some p ∷ ps) more h = suffice_held ws ps more h
suffice_held (parts.Value ∷ ws) [] more h = absurd h
suffice_held (parts.Value ∷ ws) (None ∷ ps) more h = absurd h
suffice_held (parts.Value ∷ ws) (Some p ∷ ps) more h = suffice_held ws ps more h
suffice_held (parts.Term ∷ ws) [] more h = absurd h
suffice_held (parts.Term ∷ ws) (None ∷ ps) more h = absurd h
suffice_held (parts.Term ∷ ws) (Some p ∷ ps) more h = suffice_held ws ps more h
suffice_held (parts.Under i ∷ ws) [] more h = absurd h
suffice_held (parts.Under i ∷ ws) (None ∷ ps) more h = absurd h
suffice_held (parts.Under i ∷ ws) (Some p ∷ ps) more h = suffice_held ws ps more h
suffice_held (parts.UnderBoth i j ∷ ws) [] more h = absurd h
suffice_held (parts.UnderBoth i j ∷ ws) (None ∷ ps) more h = absurd h
suffice_held (parts.UnderBoth i j ∷ ws) (Some p ∷ ps) more h = suffice_held ws ps more h

spelling_held : (t : Term) → spelling t ≡ form (term_word t) (all_spelled (held_of t)) (terms_spelled (more_of t))
spelling_held (Seq' p a q b shape more) =
    ap (form (term_word (Seq' p a q b shape more)) (all_spelled (held_of (Seq' p a q b shape more))))
    (row_spellings_items _ more)
spelling_held _ = refl

atoms_held : (t : Term) → atoms_of t ≡ word (term_word t) ∷ all_atoms (held_of t) (terms_atoms (more_of t) (ended ∷ []))
atoms_held (Seq' p a q b shape more) =
    ap (λ xs. word (term_word (Seq' p a q b shape more)) ∷ all_atoms (held_of (Seq' p a q b shape more)) xs)
    (row_atoms_items _ more (ended ∷ []))
atoms_held _ = refl

covered : (t : Term) → Covers (parts_of (term_word t)) (held_of t) (more_of t)
unfolding parts_of
covered (Seq' p a q b shape more) = tt
covered _ = refl

-- a term's word, pieces that hold what stands in it, and its further terms are its form
pub form_spelling : (t : Term) (w : Word) (ps : List (Option PrintedPart)) (more : List Term) → w ≡ term_word t →
    held_in ps ≡ held_of t → more ≡ more_of t → spelling t ≡ form w (pieces_of ps) (terms_spelled more)
form_spelling t w ps more d e f =
    spelling_held t
    ∙ ap (λ q. form (term_word t) q (terms_spelled (more_of t))) (sym (pieces_spelled ps ∙ ap all_spelled e))
    ∙ ap (λ x. form x (pieces_of ps) (terms_spelled (more_of t))) (sym d)
    ∙ ap (λ ts. form w (pieces_of ps) (terms_spelled ts)) (sym f)

pub form_atoms : (t : Term) (w : Word) (ps : List (Option PrintedPart)) (more : List Term) → w ≡ term_word t →
    held_in ps ≡ held_of t → more ≡ more_of t → atoms_of t ≡ word w ∷ pieces_atoms ps (terms_atoms more (ended ∷ []))
form_atoms t w ps more d e f =
    let end : List Atom = terms_atoms (more_of t) (ended ∷ []) in
    atoms_held t ∙ ap (λ xs. word (term_word t) ∷ xs) (sym (pieces_atoms_held ps end ∙ ap (λ hs. all_atoms hs end) e))
    ∙ ap (λ x. word x ∷ pieces_atoms ps end) (sym d)
    ∙ ap (λ ts. word w ∷ pieces_atoms ps (terms_atoms ts (ended ∷ []))) (sym f)

pub form_suffices : (t : Term) (w : Word) (ps : List (Option PrintedPart)) (more : List Term) → w ≡ term_word t →
    held_in ps ≡ held_of t → more ≡ more_of t → Suffice (parts_of w) ps more
form_suffices t w ps more d e f =
    let covers : Covers (parts_of (term_word t)) (held_in ps) (more_of t) =
    subst (λ hs. Covers (parts_of (term_word t)) hs (more_of t)) (sym e) (covered t) in
    let suffices : Suffice (parts_of (term_word t)) ps (more_of t) =
    suffice_held (parts_of (term_word t)) ps (more_of t) covers in
    subst (λ x. Suffice (parts_of x) ps more) (sym d)
    (subst (λ ts. Suffice (parts_of (term_word t)) ps ts) (sym f) suffices)
