-- What is written of a form, part by part.
use Rattle.std.proofs.Common.{◌≡◌, ◌+◌, ◌-◌, ◌≤◌, ℕ, List, [], ◌∷◌, ◌++◌, length, get_or, take, drop, Option, Some, Result, OnOk, refl, ap, sym, ◌∙◌, arith}
use Rattle.std.proofs.{Common.append_assoc, Math.Seq.take_all, lemmas.Result.on_ok_weaker}
use Rattle.effect_term.specs.declared.term.Kind.{Kind}
use Rattle.term_parse.specs.declared.{printer.PrintedPart.PrintedPart, table.Part.{Part, TheVariants.{Bind, More, Close}}}
use Rattle.term_parse.specs.{declared.table.Word.Word, Language.{word_spelling, parts_of}, Spelling.{name_spelling, parts_spelling, piece_spelling}}
use Rattle.term_parse.specs.{Spelling.{more_spelling, outer_binders, form}, PrintedParts.{piece_of, pieces_of}}
use Rattle.term_parse.specs.Spelling as spelled

-- a byte, a text and a further text, one after another
pub appended : {A E : Type 0} (r : Result A E) (byte : ℕ) (old one two new text more all : List ℕ) → OnOk r (new ≡ two ++ more) → two ≡ one ++ text →
    one ≡ old ++ byte ∷ [] → all ≡ byte ∷ (text ++ more) → OnOk r (new ≡ old ++ all)
appended r byte old one two new text more all h e f g =
    on_ok_weaker r (λ k. k ∙ ap (λ x. x ++ more) (e ∙ ap (λ x. x ++ text) f) ∙ append_assoc (old ++ byte ∷ []) text more ∙
    append_assoc old (byte ∷ []) (text ++ more) ∙ ap (λ x. old ++ x) (sym g)) h

rest_is : {A : Type 0} (x : A) (xs : List A) → take (length (x ∷ xs) - 1) (drop 1 (x ∷ xs)) ≡ xs
rest_is x xs = take_all (length (x ∷ xs) - 1) xs (omega arith)

pub close_text : (parts : List Part) (d : Part) (a b : ℕ) (q : List spelled.SpelledPart) (m : List (ℕ → List ℕ)) → 1 ≤ length parts →
    get_or parts 0 d ≡ Close → parts_spelling a b parts q m ≡ 41 ∷ []
unfolding parts_spelling
close_text [] d a b q m l e = absurd (omega arith)
close_text (p ∷ ps) d a b q m l e = ap (λ x. parts_spelling a b (x ∷ ps) q m) e

pub more_text : (parts : List Part) (d : Part) (a b : ℕ) (q : List spelled.SpelledPart) (m : List (ℕ → List ℕ)) → 1 ≤ length parts →
    get_or parts 0 d ≡ More → parts_spelling a b parts q m ≡ more_spelling a m
unfolding parts_spelling
more_text [] d a b q m l e = absurd (omega arith)
more_text (p ∷ ps) d a b q m l e = ap (λ x. parts_spelling a b (x ∷ ps) q m) e

-- a text and a further text
pub followed : {A E : Type 0} (r : Result A E) (old one new text more all : List ℕ) → OnOk r (new ≡ one ++ more) →
    one ≡ old ++ text → all ≡ text ++ more → OnOk r (new ≡ old ++ all)
followed r old one new text more all h e g =
    on_ok_weaker r (λ k. k ∙ ap (λ x. x ++ more) e ∙ append_assoc old text more ∙ ap (λ x. old ++ x) (sym g)) h

pub bind_text : (parts : List Part) (d : Part) (k : Kind) (a b : ℕ) (q : List spelled.SpelledPart) (m : List (ℕ → List ℕ)) →
    1 ≤ length parts → get_or parts 0 d ≡ Bind k → parts_spelling a b parts q m ≡
    (32 ∷ name_spelling k (a + outer_binders b (take (length parts - 1) (drop 1 parts)))) ++
    parts_spelling a (b + 1) (take (length parts - 1) (drop 1 parts)) q m
unfolding parts_spelling
bind_text [] d k a b q m l e = absurd (omega arith)
bind_text (p ∷ ps) d k a b q m l e =
    let rest : take (length (p ∷ ps) - 1) (drop 1 (p ∷ ps)) ≡ ps = rest_is p ps in
    ap (λ x. parts_spelling a b (x ∷ ps) q m) e
    ∙ ap (λ x. 32 ∷ (name_spelling k (a + outer_binders b x) ++ parts_spelling a (b + 1) x q m)) (sym rest)

-- a part that is none of those
piece_front : (p : Part) (ps : List Part) (x : spelled.SpelledPart) (a b : ℕ) (q : List spelled.SpelledPart) (m : List (ℕ → List ℕ)) →
    ((k : Kind) → p ≡ Bind k → ⊥) → (p ≡ More → ⊥) → (p ≡ Close → ⊥) →
    parts_spelling a b (p ∷ ps) (x ∷ q) m ≡ 32 ∷ (piece_spelling a p x ++ parts_spelling a b ps q m)
unfolding parts_spelling
piece_front (Bind k) ps x a b q m f g h = absurd (f k refl)
piece_front More ps x a b q m f g h = absurd (g refl)
piece_front Close ps x a b q m f g h = absurd (h refl)
piece_front _ ps x a b q m f g h = refl

pub piece_text : (parts : List Part) (pieces : List (Option PrintedPart)) (d : Part) (e : Option PrintedPart) (piece : PrintedPart)
    (a b : ℕ) (m : List (ℕ → List ℕ)) →
    1 ≤ length parts → 1 ≤ length pieces → ((k : Kind) → get_or parts 0 d ≡ Bind k → ⊥) → (get_or parts 0 d ≡ More → ⊥) →
    (get_or parts 0 d ≡ Close → ⊥) → get_or pieces 0 e ≡ Some piece →
    parts_spelling a b parts (pieces_of pieces) m ≡ 32 ∷ (piece_spelling a (get_or parts 0 d) (piece_of piece) ++
    parts_spelling a b (take (length parts - 1) (drop 1 parts)) (pieces_of (take (length pieces - 1) (drop 1 pieces))) m)
piece_text [] pieces d e piece a b m l r f g h s = absurd (omega arith)
piece_text (p ∷ ps) [] d e piece a b m l r f g h s = absurd (omega arith)
piece_text (p ∷ ps) (x ∷ xs) d e piece a b m l r f g h s =
    let rest : take (length (p ∷ ps) - 1) (drop 1 (p ∷ ps)) ≡ ps = rest_is p ps in
    let others : take (length (x ∷ xs) - 1) (drop 1 (x ∷ xs)) ≡ xs = rest_is x xs in
    ap (λ y. parts_spelling a b (p ∷ ps) (pieces_of (y ∷ xs)) m) s
    ∙ piece_front p ps (piece_of piece) a b (pieces_of xs) m f g h
    ∙ ap (λ y. 32 ∷ (piece_spelling a p (piece_of piece) ++ parts_spelling a b y (pieces_of xs) m)) (sym rest)
    ∙ ap (λ y. 32 ∷ (piece_spelling a p (piece_of piece) ++ parts_spelling a b (take (length (p ∷ ps) - 1) (drop 1 (p ∷ ps))) (pieces_of y) m)) (sym others)

pub form_text : (w : Word) (q : List spelled.SpelledPart) (m : List (ℕ → List ℕ)) (a : ℕ) (s : List ℕ) (parts : List Part) → s ≡ word_spelling w →
    parts ≡ parts_of w → form w q m a ≡ 40 ∷ (s ++ parts_spelling a 0 parts q m)
unfolding form
form_text w q m a s parts e f =
    ap (λ x. 40 ∷ (x ++ parts_spelling a 0 (parts_of w) q m)) (sym e) ∙ ap (λ x. 40 ∷ (s ++ parts_spelling a 0 x q m)) (sym f)
