-- What the grammar spells is what is read, both ways.
use Rattle.std.proofs.Common.{◌≡◌, ◌+◌, ◌≤◌, ◌<◌, ℕ, suc, List, [], ◌∷◌, ◌++◌, refl, ap, sym, ◌∙◌, arith, append_assoc}
use Rattle.effect_term.specs.declared.term.Operand.TheVariants.{Number, Named}
use Rattle.term_parse.specs.{declared.table.{Word.Word, Part.{Part, TheVariants.{Bind, Use, Value, Term, Under, UnderBoth, More, Close}}}, Atoms.{Atom, word}}
use Rattle.term_parse.specs.{Atoms.{value, name}, Language.{word_spelling, parts_of}, Lexemes.{opens, called, Placed}, Reading.{Bound, Want, a_word, parts}}
use Rattle.term_parse.specs.{Reading.{want_step, part_step, opening, entered, open_of, with_front, reads}, Grammar.{Phrase, done, spelled, counted, form}}
use Rattle.term_parse.{specs.Grammar.{tokens_of, depth_of, Means}, proofs.{Fronts.{with_none, with_both, opening_low}, Words.word_of-spelled}}
use Rattle.term_parse.proofs.ScopeLaws.{meaning-from_innermost}
use Rattle.effect_term.specs.declared.term.Kind.TheVariants as kinds

-- a form from its opening bracket on, wherever a bracket is wanted
pub opened : (end a c : ℕ) (w : Word) (v : Want) (inside : List Bound) (after todo : List Want) (ts : List Placed) →
    want_step (open_of (v ∷ todo)) v opens a ≡ opening (open_of (v ∷ todo)) a (a_word inside ∷ after) → open_of (v ∷ todo) < 100 →
    reads end (v ∷ todo) (record { lexeme = opens; place = a } ∷ record { lexeme = called (word_spelling w); place = c } ∷ ts) ≡ with_front
    (word w ∷ []) (reads end (parts inside [] (parts_of w) ∷ (after ++ todo)) ts)
unfolding reads want_step
opened end a c w v inside after todo ts o l =
    rw (o ∙ opening_low _ _ _ l, reads) (with_none _ ∙ rw (word_of-spelled w, reads) refl)

pub reads_phrase : (end : ℕ) (p : Phrase) (s b : List Bound) (ps : List Part) (xs : List Atom) (todo : List Want) (rest : List Placed) →
    Means s b ps p xs → suc (open_of todo) + depth_of p ≤ 100 → reads end (parts s b ps ∷ todo) (tokens_of p ++ rest) ≡ with_front xs (reads end todo rest)
unfolding reads want_step part_step
reads_phrase end (done a) s b (Close ∷ ps) xs todo rest m l = ap (λ x. with_front x (reads end todo rest)) (sym m)
reads_phrase end (done a) s b (More ∷ ps) xs todo rest m l = ap (λ x. with_front x (reads end todo rest)) (sym m)
reads_phrase end (spelled a x p) s b (Bind k ∷ ps) xs todo rest m l = with_none _ ∙
    reads_phrase end p s (b ++ record { spelling = x; kind = k } ∷ []) ps xs todo rest m l
reads_phrase end (spelled a x p) s b (Use k ∷ ps) xs todo rest m l =
    rw (meaning-from_innermost s k x a m.0 (m.2, m.3), reads) (ap (with_front (name m.0 ∷ [])) (reads_phrase end p s b ps m.1 todo rest m.5 l) ∙
    with_both (name m.0 ∷ []) m.1 (reads end todo rest) ∙ ap (λ x. with_front x (reads end todo rest)) (sym m.4))
reads_phrase end (spelled a x p) s b (Value ∷ ps) xs todo rest m l =
    rw (meaning-from_innermost s kinds.Value x a m.0 (m.2, m.3), reads)
    (ap (with_front (value (Named m.0) ∷ [])) (reads_phrase end p s b ps m.1 todo rest m.5 l) ∙
    with_both (value (Named m.0) ∷ []) m.1 (reads end todo rest) ∙ ap (λ x. with_front x (reads end todo rest)) (sym m.4))
reads_phrase end (form a c w q p) s b (Term ∷ ps) xs todo rest m l =
    opened end a c w (parts s b (Term ∷ ps)) (entered s b Term) (parts s b ps ∷ []) todo ((tokens_of q ++ tokens_of p) ++ rest) refl (omega arith)
    ∙ ap (with_front (word w ∷ []))
    (ap (reads end (parts (entered s b Term) [] (parts_of w) ∷ parts s b ps ∷ todo)) (append_assoc (tokens_of q) (tokens_of p) rest) ∙
    reads_phrase end q (entered s b Term) [] (parts_of w) m.0 (parts s b ps ∷ todo) (tokens_of p ++ rest) m.3 (omega arith) ∙
    ap (with_front m.0) (reads_phrase end p s b ps m.1 todo rest m.4 (omega arith)) ∙ with_both m.0 m.1 (reads end todo rest))
    ∙ with_both (word w ∷ []) (m.0 ++ m.1) (reads end todo rest) ∙ ap (λ x. with_front x (reads end todo rest)) (sym m.2)
reads_phrase end (form a c w q p) s b (Under i ∷ ps) xs todo rest m l =
    opened end a c w (parts s b ((Under i) ∷ ps)) (entered s b (Under i)) (parts s b ps ∷ []) todo ((tokens_of q ++ tokens_of p) ++ rest) refl (omega arith)
    ∙ ap (with_front (word w ∷ []))
    (ap (reads end (parts (entered s b (Under i)) [] (parts_of w) ∷ parts s b ps ∷ todo)) (append_assoc (tokens_of q) (tokens_of p) rest) ∙
    reads_phrase end q (entered s b (Under i)) [] (parts_of w) m.0 (parts s b ps ∷ todo) (tokens_of p ++ rest) m.3 (omega arith) ∙
    ap (with_front m.0) (reads_phrase end p s b ps m.1 todo rest m.4 (omega arith)) ∙ with_both m.0 m.1 (reads end todo rest))
    ∙ with_both (word w ∷ []) (m.0 ++ m.1) (reads end todo rest) ∙ ap (λ x. with_front x (reads end todo rest)) (sym m.2)
reads_phrase end (form a c w q p) s b (UnderBoth i j ∷ ps) xs todo rest m l =
    opened end a c w (parts s b ((UnderBoth i j) ∷ ps)) (entered s b (UnderBoth i j)) (parts s b ps ∷ []) todo ((tokens_of q ++ tokens_of p) ++ rest)
    refl (omega arith)
    ∙ ap (with_front (word w ∷ []))
    (ap (reads end (parts (entered s b (UnderBoth i j)) [] (parts_of w) ∷ parts s b ps ∷ todo)) (append_assoc (tokens_of q) (tokens_of p) rest) ∙
    reads_phrase end q (entered s b (UnderBoth i j)) [] (parts_of w) m.0 (parts s b ps ∷ todo) (tokens_of p ++ rest) m.3 (omega arith) ∙
    ap (with_front m.0) (reads_phrase end p s b ps m.1 todo rest m.4 (omega arith)) ∙ with_both m.0 m.1 (reads end todo rest))
    ∙ with_both (word w ∷ []) (m.0 ++ m.1) (reads end todo rest) ∙ ap (λ x. with_front x (reads end todo rest)) (sym m.2)
reads_phrase end (form a c w q p) s b (More ∷ ps) xs todo rest m l =
    opened end a c w (parts s b (More ∷ ps)) (entered s b More) (parts s b (More ∷ ps) ∷ []) todo ((tokens_of q ++ tokens_of p) ++ rest) refl (omega arith)
    ∙ ap (with_front (word w ∷ []))
    (ap (reads end (parts (entered s b More) [] (parts_of w) ∷ parts s b (More ∷ ps) ∷ todo)) (append_assoc (tokens_of q) (tokens_of p) rest) ∙
    reads_phrase end q (entered s b More) [] (parts_of w) m.0 (parts s b (More ∷ ps) ∷ todo) (tokens_of p ++ rest) m.3 (omega arith) ∙
    ap (with_front m.0) (reads_phrase end p s b (More ∷ ps) m.1 todo rest m.4 (omega arith)) ∙ with_both m.0 m.1 (reads end todo rest))
    ∙ with_both (word w ∷ []) (m.0 ++ m.1) (reads end todo rest) ∙ ap (λ x. with_front x (reads end todo rest)) (sym m.2)
reads_phrase end (counted a n p) s b (Value ∷ ps) xs todo rest m l =
    ap (with_front (value (Number n) ∷ [])) (reads_phrase end p s b ps m.0 todo rest m.2 l) ∙
    with_both (value (Number n) ∷ []) m.0 (reads end todo rest) ∙ ap (λ x. with_front x (reads end todo rest)) (sym m.1)
reads_phrase end p s b ps xs todo rest m l = absurd m
