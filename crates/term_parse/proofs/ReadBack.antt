-- Reading the canonical spelling of a term gives the term's atoms.
use Rattle.std.proofs.Common.{◌≡◌, ◌+◌, ◌*◌, ◌≤◌, ℕ, suc, false, List, [], ◌∷◌, ◌++◌, length, Some, Ok, refl, ap, sym, subst, ◌∙◌, arith, append_assoc}
use Rattle.std.{proofs.Common.{slice_get, length-append}, specs.Fmt.signed_decimal}
use Rattle.effect_term.specs.{declared.term.{Kind.Kind, Name.Name, Operand.{Operand, TheVariants.{Number, Named}}}, Kinds.{Fits, ValueFits}}
use Rattle.term_parse.specs.{declared.table.{Part.{Part, TheVariants.{Bind, Use, Value, Term, Under, UnderBoth, More, Close}}, Word.Word}, Atoms.{Atom, word}}
use Rattle.term_parse.specs.{Atoms.{value, name, ended}, Language.{word_spelling, parts_of}, Lexemes.{Lexeme, opens, called, number, Placed, lexeme_of}}
use Rattle.term_parse.specs.{Lexemes.lexemes, Reading.{Bound, Want, a_word, parts, ReadStep, want_step, part_step, used, opening, entered, open_of, with_front}}
use Rattle.term_parse.specs.{Reading.reads, Numbers.NumbersFit, Spelling.{name_spelling, outer_binders, more_spelling, parts_spelling, form}}
use Rattle.term_parse.proofs.{Fronts.with_both, GrammarLaws.opened, Tokens.{Ends, name_token, number_token, word_token}, CanonicalScopes.{scope_of, Own}}
use Rattle.term_parse.proofs.CanonicalScopes.{own_names, own_names-append, meant, slot_below, entered_under, entered_both, outer_few}
use Rattle.effect_term.specs.declared.term.Kind.TheVariants as kinds
use Rattle.term_parse.specs.Spelling as spelled

-- a term by its spelling, its atoms and a bound of its depth
pub record Reader : Type 0 where
  pub text : ℕ → List ℕ
  pub atoms : List Atom
  pub nest : ℕ

-- what stands in a form beside its binders
pub data Read : Type 0 where
  value_read : Operand → Read
  name_read : Name → Read
  inner_read : Reader → Read

abbrev pub piece_of : Read → spelled.SpelledPart
piece_of (value_read v) = spelled.value v
piece_of (name_read n) = spelled.name n
piece_of (inner_read r) = spelled.inner r.text

abbrev pub pieces : List Read → List spelled.SpelledPart
pieces [] = []
pieces (x ∷ q) = piece_of x ∷ pieces q

abbrev pub texts : List Reader → List (ℕ → List ℕ)
texts [] = []
texts (r ∷ rs) = r.text ∷ texts rs

abbrev pub more_atoms : List Reader → List Atom
more_atoms [] = ended ∷ []
more_atoms (r ∷ rs) = r.atoms ++ more_atoms rs

abbrev pub form_atoms : List Read → List Reader → List Atom
form_atoms [] more = more_atoms more
form_atoms (value_read v ∷ q) more = value v ∷ form_atoms q more
form_atoms (name_read n ∷ q) more = name n ∷ form_atoms q more
form_atoms (inner_read r ∷ q) more = r.atoms ++ form_atoms q more

-- where a term is wanted under binders of these kinds, its text is read as its atoms
abbrev pub Readable : Reader → List Kind → Type 0
Readable r ks =
    NumbersFit r.atoms → length ks + 2 * r.nest ≤ 1000 →
    (end at : ℕ) (v : Want) (after todo : List Want) (rest : List ℕ) →
    ((place : ℕ) → want_step (open_of (v ∷ todo)) v opens place ≡ opening (open_of (v ∷ todo)) place (a_word (scope_of ks) ∷ after)) →
    open_of (after ++ todo) ≡ open_of (v ∷ todo) → open_of (v ∷ todo) + r.nest ≤ 100 →
    (next : ℕ) × (reads end (v ∷ todo) (lexemes false at (r.text (length ks) ++ rest)) ≡ with_front r.atoms
    (reads end (after ++ todo) (lexemes false next rest)))

abbrev pub AllReadable : ℕ → List Kind → List Reader → Type 0
AllReadable n ks [] = Unit {0}
AllReadable n ks (r ∷ rs) = (suc r.nest ≤ n) × Readable r ks × AllReadable n ks rs

-- these fit the parts of a form under binders of these kinds and these of its own
abbrev pub AreParts : ℕ → List Kind → List Own → List Part → List Read → List Reader → Type 0
AreParts n ks bs (Close ∷ ps) [] [] = Unit {0}
AreParts n ks bs (More ∷ ps) [] more = AllReadable n ks more
AreParts n ks bs (Bind k ∷ ps) q more = AreParts n ks (bs ++ record { kind = k; outer = outer_binders (length bs) ps } ∷ []) ps q more
AreParts n ks bs (Use k ∷ ps) (name_read m ∷ q) more = Fits ks k m × AreParts n ks bs ps q more
AreParts n ks bs (Value ∷ ps) (value_read v ∷ q) more = ValueFits ks v × AreParts n ks bs ps q more
AreParts n ks bs (Term ∷ ps) (inner_read r ∷ q) more = (suc r.nest ≤ n) × Readable r ks × AreParts n ks bs ps q more
AreParts n ks bs (Under i ∷ ps) (inner_read r ∷ q) more = (k : Kind) × (slice_get bs i ≡ Some (record { kind = k; outer = 0 })) × (suc r.nest ≤ n) ×
    Readable r (ks ++ k ∷ []) × AreParts n ks bs ps q more
AreParts n ks bs (UnderBoth i j ∷ ps) (inner_read r ∷ q) more = (k : Kind) × (l : Kind) × (slice_get bs i ≡ Some (record { kind = k; outer = 0 })) ×
    (slice_get bs j ≡ Some (record { kind = l; outer = 1 })) × (suc r.nest ≤ n) × Readable r (ks ++ k ∷ l ∷ []) × AreParts n ks bs ps q more
AreParts n ks bs ps q more = ⊥

-- the rest of the text is read as these atoms, wherever it stands
abbrev Onto : ℕ → Want → List Want → List ℕ → List Atom → List ℕ → Type 0
Onto end v todo text xs rest = (at : ℕ) → (next : ℕ) ×
    (reads end (v ∷ todo) (lexemes false at (text ++ rest)) ≡ with_front xs (reads end todo (lexemes false next rest)))

reads_step : (end : ℕ) (t : Placed) (ts : List Placed) (v : Want) (todo : List Want) (s : ReadStep) →
    want_step (open_of (v ∷ todo)) v t.lexeme t.place ≡ Ok s → reads end (v ∷ todo) (t ∷ ts) ≡ with_front s.atoms (reads end (s.wants ++ todo) ts)
unfolding reads
reads_step end t ts v todo s e = rw (e, reads) refl

-- a space, a token, and the rest
token_onto : (end at : ℕ) (v after : Want) (todo : List Want) (text more : List ℕ) (l : Lexeme) (front xs : List Atom) (rest : List ℕ) →
    ((place : ℕ) → (next : ℕ) ×
    (lexemes false place (text ++ (more ++ rest)) ≡ record { lexeme = l; place = place } ∷ lexemes false next (more ++ rest))) →
    ((place : ℕ) → want_step (open_of (v ∷ todo)) v l place ≡ Ok (record { atoms = front; wants = after ∷ [] })) → Onto end after todo more xs rest →
    (next : ℕ) × (reads end (v ∷ todo) (lexemes false at (32 ∷ ((text ++ more) ++ rest))) ≡ with_front (front ++ xs) (reads end todo (lexemes false next rest)))
unfolding lexemes
token_onto end at v after todo text more l front xs rest token step onto =
    let t = token (suc at) in
    let m = onto t.0 in (
      m.0,
      ap (λ bs. reads end (v ∷ todo) (lexemes false (suc at) bs)) (append_assoc text more rest)
          ∙ ap (reads end (v ∷ todo)) t.1
          ∙ reads_step end (record { lexeme = l; place = suc at }) (lexemes false t.0 (more ++ rest)) v todo
          (record { atoms = front; wants = after ∷ [] }) (step (suc at))
          ∙ ap (with_front front) m.1 ∙ with_both front xs (reads end todo (lexemes false m.0 rest)),
    )

split_numbers : (xs ys : List Atom) → NumbersFit (xs ++ ys) → NumbersFit xs × NumbersFit ys
split_numbers [] ys h = (tt, h)
split_numbers (word w ∷ xs) ys h = split_numbers xs ys h
split_numbers (value (Number n) ∷ xs) ys h = let s = split_numbers xs ys h.1 in ((h.0, s.0), s.1)
split_numbers (value (Named n) ∷ xs) ys h = split_numbers xs ys h
split_numbers (name n ∷ xs) ys h = split_numbers xs ys h
split_numbers (ended ∷ xs) ys h = split_numbers xs ys h

-- a space, a term, and the rest
inner_onto : (r : Reader) (ks : List Kind) (around end at : ℕ) (v after : Want) (todo : List Want) (more : List ℕ) (xs : List Atom) (rest : List ℕ) →
    Readable r ks → length ks ≡ around → NumbersFit r.atoms → length ks + 2 * r.nest ≤ 1000 →
    ((place : ℕ) → want_step (open_of (v ∷ todo)) v opens place ≡ opening (open_of (v ∷ todo)) place (a_word (scope_of ks) ∷ after ∷ [])) →
    open_of (after ∷ todo) ≡ open_of (v ∷ todo) → open_of (v ∷ todo) + r.nest ≤ 100 → Onto end after todo more xs rest → (next : ℕ) ×
    (reads end (v ∷ todo) (lexemes false at (32 ∷ ((r.text around ++ more) ++ rest))) ≡ with_front (r.atoms ++ xs) (reads end todo (lexemes false next rest)))
unfolding lexemes
inner_onto r ks around end at v after todo more xs rest read len nums small step same low onto =
    let t = read nums small end (suc at) v (after ∷ []) todo (more ++ rest) step same low in
    let m = onto t.0 in (
      m.0,
      ap (λ bs. reads end (v ∷ todo) (lexemes false (suc at) bs)) (append_assoc (r.text around) more rest)
          ∙ ap (λ k. reads end (v ∷ todo) (lexemes false (suc at) (r.text k ++ (more ++ rest)))) (sym len)
          ∙ t.1 ∙ ap (with_front r.atoms) m.1 ∙ with_both r.atoms xs (reads end todo (lexemes false m.0 rest)),
    )

more_onto : (n : ℕ) (ks : List Kind) (b : List Bound) (ps : List Part) (rs : List Reader) → AllReadable n ks rs → NumbersFit (more_atoms rs) →
    length ks + 2 * n ≤ 1000 → (end : ℕ) (todo : List Want) (rest : List ℕ) → open_of todo + n ≤ 100 →
    Onto end (parts (scope_of ks) b (More ∷ ps)) todo (more_spelling (length ks) (texts rs)) (more_atoms rs) rest
unfolding lexemes lexeme_of reads want_step part_step entered
more_onto n ks b ps [] h nums small end todo rest low at = (suc at, refl)
more_onto n ks b ps (r ∷ rs) h nums small end todo rest low at =
    let s = split_numbers r.atoms (more_atoms rs) nums in
    let deep : suc r.nest ≤ n = h.0 in
    inner_onto r ks (length ks) end at (parts (scope_of ks) b (More ∷ ps)) (parts (scope_of ks) b (More ∷ ps)) todo
    (more_spelling (length ks) (texts rs)) (more_atoms rs) rest h.1 refl s.0 (omega arith) (λ place. refl) refl (omega arith)
    (more_onto n ks b ps rs h.2 s.1 small end todo rest low)

-- a space or a closing bracket stands behind each part
parts_ends : (n : ℕ) (ks : List Kind) (bs : List Own) (ps : List Part) (q : List Read) (more : List Reader) → AreParts n ks bs ps q more →
    (a b : ℕ) (rest : List ℕ) → Ends (parts_spelling a b ps (pieces q) (texts more) ++ rest)
unfolding parts_spelling
parts_ends n ks bs (Close ∷ ps) [] [] h a b rest = refl
parts_ends n ks bs (More ∷ ps) [] [] h a b rest = refl
parts_ends n ks bs (More ∷ ps) [] (r ∷ rs) h a b rest = refl
parts_ends n ks bs (Bind k ∷ ps) q more h a b rest = refl
parts_ends n ks bs (Use k ∷ ps) (name_read m ∷ q) more h a b rest = refl
parts_ends n ks bs (Value ∷ ps) (value_read v ∷ q) more h a b rest = refl
parts_ends n ks bs (Term ∷ ps) (inner_read r ∷ q) more h a b rest = refl
parts_ends n ks bs (Under i ∷ ps) (inner_read r ∷ q) more h a b rest = refl
parts_ends n ks bs (UnderBoth i j ∷ ps) (inner_read r ∷ q) more h a b rest = refl
parts_ends n ks bs ps q more h a b rest = absurd h

pub parts_onto : (n : ℕ) (ks : List Kind) (ps : List Part) (bs : List Own) (q : List Read) (more : List Reader) → AreParts n ks bs ps q more →
    NumbersFit (form_atoms q more) → length ks + 2 * n ≤ 1000 → (bound : ℕ) → bound ≡ length bs → (end : ℕ) (todo : List Want) (rest : List ℕ) →
    open_of todo + n ≤ 100 →
    Onto end (parts (scope_of ks) (own_names (length ks) bs) ps) todo (parts_spelling (length ks) bound ps (pieces q) (texts more)) (form_atoms q more) rest
unfolding parts_spelling lexemes lexeme_of reads want_step part_step entered
parts_onto n ks (Close ∷ ps) bs [] [] h nums small bound e end todo rest low at = (suc at, refl)
parts_onto n ks (More ∷ ps) bs [] more h nums small bound e end todo rest low at =
    more_onto n ks (own_names (length ks) bs) ps more h nums small end todo rest low at
parts_onto n ks (Bind k ∷ ps) bs q more h nums small bound e end todo rest low at =
    let own : List Own = bs ++ record { kind = k; outer = outer_binders (length bs) ps } ∷ [] in
    let slot : ℕ = length ks + outer_binders bound ps in
    let few = outer_few bound ps in
    let behind : List ℕ = parts_spelling (length ks) (bound + 1) ps (pieces q) (texts more) in
    let names : own_names (length ks) bs ++ record { spelling = name_spelling k slot; kind = k } ∷ [] ≡ own_names (length ks) own =
    ap (λ i. own_names (length ks) bs ++ record { spelling = name_spelling k (length ks + outer_binders i ps); kind = k } ∷ []) e
    ∙ sym (own_names-append (length ks) bs (record { kind = k; outer = outer_binders (length bs) ps } ∷ [])) in
    token_onto end at (parts (scope_of ks) (own_names (length ks) bs) (Bind k ∷ ps)) (parts (scope_of ks) (own_names (length ks) own) ps) todo
    (name_spelling k slot) behind (called (name_spelling k slot)) [] (form_atoms q more) rest
    (λ place. name_token k slot place (behind ++ rest) (omega arith) (parts_ends n ks own ps q more h (length ks) (bound + 1) rest))
    (λ place. ap (λ y. Ok (record { atoms = []; wants = parts (scope_of ks) y ps ∷ [] })) names)
    (parts_onto n ks ps own q more h nums small (bound + 1)
    (omega (arith, length-append bs (record { kind = k; outer = outer_binders (length bs) ps } ∷ []))) end todo rest low)
parts_onto n ks (Use k ∷ ps) bs (name_read m ∷ q) more h nums small bound e end todo rest low at =
    let behind : List ℕ = parts_spelling (length ks) bound ps (pieces q) (texts more) in
    let below = slot_below ks m.slot k h.0.0 in
    token_onto end at (parts (scope_of ks) (own_names (length ks) bs) (Use k ∷ ps)) (parts (scope_of ks) (own_names (length ks) bs) ps) todo
    (name_spelling m.kind m.slot) behind (called (name_spelling m.kind m.slot)) (name m ∷ []) (form_atoms q more) rest
    (λ place. name_token m.kind m.slot place (behind ++ rest) (omega arith) (parts_ends n ks bs ps q more h.1 (length ks) bound rest))
    (λ place. ap (λ r. used r (λ x. name x) (parts (scope_of ks) (own_names (length ks) bs) ps)) (meant ks m k place h.0.0 h.0.1 (omega arith)))
    (parts_onto n ks ps bs q more h.1 nums small bound e end todo rest low)
parts_onto n ks (Value ∷ ps) bs (value_read (Number z) ∷ q) more h nums small bound e end todo rest low at =
    let behind : List ℕ = parts_spelling (length ks) bound ps (pieces q) (texts more) in
    token_onto end at (parts (scope_of ks) (own_names (length ks) bs) (Value ∷ ps)) (parts (scope_of ks) (own_names (length ks) bs) ps) todo
    (signed_decimal z) behind (number z) (value (Number z) ∷ []) (form_atoms q more) rest
    (λ place. number_token z place (behind ++ rest) nums.0 (parts_ends n ks bs ps q more h.1 (length ks) bound rest))
    (λ place. refl)
    (parts_onto n ks ps bs q more h.1 nums.1 small bound e end todo rest low)
parts_onto n ks (Value ∷ ps) bs (value_read (Named m) ∷ q) more h nums small bound e end todo rest low at =
    let behind : List ℕ = parts_spelling (length ks) bound ps (pieces q) (texts more) in
    let below = slot_below ks m.slot kinds.Value h.0.0 in
    token_onto end at (parts (scope_of ks) (own_names (length ks) bs) (Value ∷ ps)) (parts (scope_of ks) (own_names (length ks) bs) ps) todo
    (name_spelling m.kind m.slot) behind (called (name_spelling m.kind m.slot)) (value (Named m) ∷ []) (form_atoms q more) rest
    (λ place. name_token m.kind m.slot place (behind ++ rest) (omega arith) (parts_ends n ks bs ps q more h.1 (length ks) bound rest))
    (λ place. ap (λ r. used r (λ x. value (Named x)) (parts (scope_of ks) (own_names (length ks) bs) ps))
    (meant ks m kinds.Value place h.0.0 h.0.1 (omega arith)))
    (parts_onto n ks ps bs q more h.1 nums small bound e end todo rest low)
parts_onto n ks (Term ∷ ps) bs (inner_read r ∷ q) more h nums small bound e end todo rest low at =
    let s = split_numbers r.atoms (form_atoms q more) nums in
    let deep : suc r.nest ≤ n = h.0 in
    inner_onto r ks (length ks + 0) end at (parts (scope_of ks) (own_names (length ks) bs) (Term ∷ ps))
    (parts (scope_of ks) (own_names (length ks) bs) ps) todo (parts_spelling (length ks) bound ps (pieces q) (texts more)) (form_atoms q more)
    rest h.1 (omega arith) s.0 (omega arith)
    (λ place. refl) refl (omega arith)
    (parts_onto n ks ps bs q more h.2 s.1 small bound e end todo rest low)
parts_onto n ks (Under i ∷ ps) bs (inner_read r ∷ q) more h nums small bound e end todo rest low at =
    let s = split_numbers r.atoms (form_atoms q more) nums in
    let deep : suc r.nest ≤ n = h.2 in
    let len : length (ks ++ h.0 ∷ []) ≡ length ks + 1 = omega (arith, length-append ks (h.0 ∷ [])) in
    inner_onto r (ks ++ h.0 ∷ []) (length ks + 1) end at (parts (scope_of ks) (own_names (length ks) bs) (Under i ∷ ps))
    (parts (scope_of ks) (own_names (length ks) bs) ps) todo (parts_spelling (length ks) bound ps (pieces q) (texts more)) (form_atoms q more)
    rest h.3 len s.0 (omega arith)
    (λ place. ap (λ y. opening (suc (open_of todo)) place (a_word y ∷ parts (scope_of ks) (own_names (length ks) bs) ps ∷ []))
    (entered_under ks bs i h.0 h.1)) refl (omega arith)
    (parts_onto n ks ps bs q more h.4 s.1 small bound e end todo rest low)
parts_onto n ks (UnderBoth i j ∷ ps) bs (inner_read r ∷ q) more h nums small bound e end todo rest low at =
    let s = split_numbers r.atoms (form_atoms q more) nums in
    let deep : suc r.nest ≤ n = h.4 in
    let len : length (ks ++ h.0 ∷ h.1 ∷ []) ≡ length ks + 2 = omega (arith, length-append ks (h.0 ∷ h.1 ∷ [])) in
    inner_onto r (ks ++ h.0 ∷ h.1 ∷ []) (length ks + 2) end at (parts (scope_of ks) (own_names (length ks) bs) (UnderBoth i j ∷ ps))
    (parts (scope_of ks) (own_names (length ks) bs) ps) todo (parts_spelling (length ks) bound ps (pieces q) (texts more)) (form_atoms q more)
    rest h.5 len s.0 (omega arith)
    (λ place. ap (λ y. opening (suc (open_of todo)) place (a_word y ∷ parts (scope_of ks) (own_names (length ks) bs) ps ∷ []))
    (entered_both ks bs i j h.0 h.1 h.2 h.3)) refl (omega arith)
    (parts_onto n ks ps bs q more h.6 s.1 small bound e end todo rest low)
parts_onto n ks ps bs q more h nums small bound e end todo rest low at = absurd h

-- a form is read, if its parts are
pub form_read : (w : Word) (q : List Read) (more : List Reader) (ks : List Kind) (n : ℕ) (t : ℕ → List ℕ) (xs : List Atom) →
    t ≡ form w (pieces q) (texts more) → xs ≡ word w ∷ form_atoms q more → AreParts n ks [] (parts_of w) q more → 1 ≤ n →
    Readable (record { text = t; atoms = xs; nest = n }) ks
unfolding form lexemes lexeme_of
form_read w q more ks n t xs text_is atoms_are h some nums small end at v after todo rest step same low =
    let behind : List ℕ = parts_spelling (length ks) 0 (parts_of w) (pieces q) (texts more) in
    let token = word_token w (suc at) (behind ++ rest) (parts_ends n ks [] (parts_of w) q more h (length ks) 0 rest) in
    let onto = parts_onto n ks (parts_of w) [] q more h (subst NumbersFit atoms_are nums) small 0 refl end (after ++ todo) rest (omega arith) token.0 in (
      onto.0,
      ap (λ f. reads end (v ∷ todo) (lexemes false at (f (length ks) ++ rest))) text_is
          ∙ ap (λ bs. reads end (v ∷ todo) (record { lexeme = opens; place = at } ∷ lexemes false (suc at) bs)) (append_assoc (word_spelling w) behind rest)
          ∙ ap (λ ts. reads end (v ∷ todo) (record { lexeme = opens; place = at } ∷ ts)) token.1
          ∙ opened end at (suc at) w v (scope_of ks) after todo (lexemes false token.0 (behind ++ rest)) (step at) (omega arith)
          ∙ ap (with_front (word w ∷ [])) onto.1
          ∙ with_both (word w ∷ []) (form_atoms q more) (reads end (after ++ todo) (lexemes false onto.0 rest))
          ∙ ap (λ x. with_front x (reads end (after ++ todo) (lexemes false onto.0 rest))) (sym atoms_are),
    )
