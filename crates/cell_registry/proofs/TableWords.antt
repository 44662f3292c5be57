-- The words that a registry leaves, read and set one at a time.
use Rattle.cell_registry.proofs.Prelude.{◌≡◌, ℕ, zero, suc, ◌+◌, ◌-◌, ◌%◌, ◌^◌, ◌<◌, List, ◌∷◌, ◌++◌, length, map, set, get_or, refl, sym, ap, ◌∙◌, subst}
use Rattle.cell_registry.proofs.Prelude.{arith, replicate, pos, ◌⊎◌, ⊎_elim, length-set, get_or-set_same, get_or-set_other, dite, ℕ_discrete, None}
use Rattle.cell_registry.proofs.Prelude.{get_or-append, set-append_left, set-append_right, get_or-append_right, length-map, length-append, map-set, get_or-map}
use Rattle.cell_registry.proofs.Prelude.{length-replicate, set-get_or, Outcome, Succeeded, value_bits, InRange, HasNoOutcome, word_of, value_of, Limits, Band}
use Rattle.cell_registry.proofs.Prelude.{Fibers, Refs, Deferreds, Stage, Running, Ended, Cell, AreLimits, fresh, Cells, cell_of, with_cell, IsOpen, after}
use Rattle.cell_registry.proofs.Prelude.{IsCell, opening, phase_at, kind_at, control, cell_word, deferred_word, Leaves, next_of, claim_of, band_word}
use Rattle.cell_registry.proofs.Lists.{get_or-replicate_default}

-- ---- cells
-- a cell within the limits fits its word
pub in_range : (k : Limits) (c : Cell) → AreLimits k → IsCell k c → InRange (control c)
unfolding control
in_range k c l i = let small = l.count in let below = i.count in let d = i.depth in
    record { count = omega arith; depth = omega arith; phase = phase_lt c.stage; kind = kind_lt c.stage }
  where
    phase_lt : (g : Stage) → phase_at g < 2 ^ 2
    phase_lt Running = omega arith
    phase_lt _ = omega arith

    kind_lt : (g : Stage) → kind_at g < 2 ^ 2
    kind_lt Running = omega arith
    kind_lt (Ended (Succeeded v)) = omega arith
    kind_lt _ = omega arith

-- the word of a fiber that hasn't ended has no outcome
pub no_outcome : (c : Cell) → IsOpen c.stage → HasNoOutcome (control c)
unfolding control
no_outcome c o = go c.stage o
  where
    go : (g : Stage) → IsOpen g → HasNoOutcome (control (record c { stage = g }))
    go (Ended p) u = absurd u
    go _ u = record { kind = refl }

-- ---- behind the first of two lists
pub after_seam : (xs ys : List ℕ) (n j : ℕ) → length xs ≡ n → get_or (xs ++ ys) (n + j) 0 ≡ get_or ys j 0
after_seam xs ys n j e = let back : (n + j) - n ≡ j = omega arith in get_or-append_right xs ys n (n + j) 0 e (omega arith) ∙ ap (λ m. get_or ys m 0) back

pub set_seam : (xs ys : List ℕ) (n j x : ℕ) → length xs ≡ n → set (xs ++ ys) (n + j) x ≡ xs ++ set ys j x
set_seam xs ys n j x e = let back : (n + j) - n ≡ j = omega arith in set-append_right xs ys n (n + j) x e (omega arith) ∙ ap (λ m. xs ++ set ys m x) back

-- ---- a value word for each fiber, behind all words of the other kinds
-- where it lies among the words of a registry
abbrev pub value_in : Cells → ℕ → ℕ
value_in s f = f + (3 + length s.cells + length s.refs + length s.deferreds)

pub value_at : (words : List ℕ) (s : Cells) (f i : ℕ) (l : Leaves words s) → i ≡ value_in s f → get_or words i 0 ≡ get_or l.values f 0
value_at words s f i l is =
    let e : i ≡ suc (suc (suc (length s.cells + (length s.refs + (length s.deferreds + f))))) = omega arith in
    let deferreds : List ℕ = map deferred_word s.deferreds ++ l.values in
    rw (l.words_are, e) (
    after_seam (map cell_word s.cells) (l.raw ++ deferreds) (length s.cells) (length s.refs + (length s.deferreds + f)) (length-map s.cells cell_word)
    ∙ after_seam l.raw deferreds (length s.refs) (length s.deferreds + f) l.long
    ∙ after_seam (map deferred_word s.deferreds) l.values (length s.deferreds) f (length-map s.deferreds deferred_word))

-- the store in the value word of a fiber that hasn't ended
pub put_value : (words : List ℕ) (s : Cells) (f i n : ℕ) → Leaves words s → i ≡ value_in s f → IsOpen (cell_of s f).stage → Leaves (set words i n) s
put_value words s f i n l is opened =
    let e : i ≡ suc (suc (suc (length s.cells + (length s.refs + (length s.deferreds + f))))) = omega arith in
    let cells : List ℕ = map cell_word s.cells in
    let deferreds : List ℕ = map deferred_word s.deferreds in
    let rest : set (cells ++ (l.raw ++ (deferreds ++ l.values))) (length s.cells + (length s.refs + (length s.deferreds + f))) n ≡ cells ++
    (l.raw ++ (deferreds ++ set l.values f n)) =
    set_seam cells (l.raw ++ (deferreds ++ l.values)) (length s.cells) (length s.refs + (length s.deferreds + f)) n (length-map s.cells cell_word)
    ∙ ap (λ (x : List ℕ). cells ++ x) (set_seam l.raw (deferreds ++ l.values) (length s.refs) (length s.deferreds + f) n l.long)
    ∙ ap (λ (x : List ℕ). cells ++ (l.raw ++ x)) (set_seam deferreds l.values (length s.deferreds) f n (length-map s.deferreds deferred_word)) in
    record {
      raw = l.raw;
      values = set l.values f n;
      words_are = rw (l.words_are, e) (λ t. s.next_fiber ∷ s.next_ref ∷ s.next_deferred ∷ rest t);
      long = l.long;
      refs = l.refs;
      many = length-set l.values f n ∙ l.many;
      ended = λ g o e. dite (ℕ_discrete f g)
          (λ (same : f ≡ g). absurd (subst IsOpen (ap (λ (j : ℕ). (cell_of s j).stage) same ∙ e) opened))
          (λ apart. get_or-set_other l.values f g n 0 (λ (q : g ≡ f). apart (sym q)) ∙ l.ended g o e);
    }

pub put_value-at : (words : List ℕ) (s : Cells) (f i n : ℕ) → Leaves words s → i ≡ value_in s f → f < length s.cells → get_or (set words i n) i 0 ≡ n
put_value-at words s f i n l is within =
    let refs = l.long in
    let many = l.many in
    let deferreds = length-map s.deferreds deferred_word in
    let cells = length-map s.cells cell_word in
    let front : List ℕ = map cell_word s.cells in
    let back : List ℕ = map deferred_word s.deferreds in
    let long : length words ≡ suc (suc (suc (length front + (length l.raw + (length back + length l.values))))) = ap (λ (x : List ℕ). length x) l.words_are ∙
    ap (λ (m : ℕ). suc (suc (suc m))) (length-append front (l.raw ++ (back ++ l.values)) ∙
    ap (λ m. length front + m) (length-append l.raw (back ++ l.values) ∙ ap (λ m. length l.raw + m) (length-append back l.values))) in
    get_or-set_same words i n 0 (omega arith)

-- ---- a word for each fiber
pub word_at : (words : List ℕ) (s : Cells) (f i : ℕ) → Leaves words s → i ≡ f + 3 → f < length s.cells → get_or words i 0 ≡ cell_word (cell_of s f)
word_at words s f i l is within =
    let e : i ≡ suc (suc (suc f)) = omega arith in
    let long = length-map s.cells cell_word in
    rw (l.words_are, e) (get_or-append (map cell_word s.cells) (l.raw ++ (map deferred_word s.deferreds ++ l.values)) 0 f (omega arith) ∙
    get_or-map cell_word s.cells f fresh 0 within)

-- where the cell has ended, it had before, or the value word is the outcome's
pub put_word : (words : List ℕ) (s : Cells) (f i : ℕ) (c : Cell) (n : ℕ) → Leaves words s → i ≡ f + 3 → f < length s.cells → n ≡ cell_word c
    → ((o : Outcome) → c.stage ≡ Ended o → ((cell_of s f).stage ≡ Ended o) ⊎ (get_or words (value_in s f) 0 ≡ value_bits (value_of o)))
    → Leaves (set words i n) (with_cell s f c)
put_word words s f i c n l is within e ends =
    let j : i ≡ suc (suc (suc f)) = omega arith in
    let long = length-map s.cells cell_word in
    let others : List ℕ = l.raw ++ (map deferred_word s.deferreds ++ l.values) in
    let rest : set (map cell_word s.cells ++ others) f (cell_word c) ≡ map cell_word (set s.cells f c) ++ others =
    set-append_left (map cell_word s.cells) others f (cell_word c) (omega arith) ∙ ap (λ (x : List ℕ). x ++ others) (sym (map-set cell_word s.cells f c)) in
    let here = λ (o : Outcome) (q : c.stage ≡ Ended o). ⊎_elim
    (λ (before : (cell_of s f).stage ≡ Ended o). l.ended f o before)
    (λ (stored : get_or words (value_in s f) 0 ≡ value_bits (value_of o)). sym (value_at words s f (value_in s f) l refl) ∙ stored)
    (ends o q) in
    record {
      raw = l.raw;
      values = l.values;
      words_are = rw (l.words_are, j, e) (λ t. s.next_fiber ∷ s.next_ref ∷ s.next_deferred ∷ rest t);
      long = l.long;
      refs = l.refs;
      many = l.many ∙ sym (length-set s.cells f c);
      ended = λ g o q. dite (ℕ_discrete f g)
          (λ (same : f ≡ g).
          let now : c.stage ≡ Ended o = sym (ap (λ (x : Cell). x.stage) (get_or-set_same s.cells f c fresh within)) ∙
          ap (λ (m : ℕ). (cell_of (with_cell s f c) m).stage) same ∙ q in
          ap (λ (m : ℕ). get_or l.values m 0) (sym same) ∙ here o now)
          (λ apart. l.ended g o (sym (ap (λ (x : Cell). x.stage) (get_or-set_other s.cells f g c fresh (λ (r : g ≡ f). apart (sym r)))) ∙ q));
    }

-- ---- a claim word for each band
pub next_at : (b : Band) (words : List ℕ) (s : Cells) → Leaves words s → get_or words (band_word b) 0 ≡ next_of b s
next_at Fibers words s l = ap (λ (ws : List ℕ). get_or ws 0 0) l.words_are
next_at Refs words s l = ap (λ (ws : List ℕ). get_or ws 1 0) l.words_are
next_at Deferreds words s l = ap (λ (ws : List ℕ). get_or ws 2 0) l.words_are

pub put_next : (b : Band) (words : List ℕ) (s : Cells) (by n : ℕ) → Leaves words s → n ≡ next_of b s + 1 →
    Leaves (set words (band_word b) n) (after s by (claim_of b))
unfolding after
put_next Fibers words s by n l e = record {
  raw = l.raw;
  values = l.values;
  words_are = ap (λ (ws : List ℕ). set ws 0 n) l.words_are ∙
      (λ j. e j ∷ s.next_ref ∷ s.next_deferred ∷ (map cell_word s.cells ++ (l.raw ++ (map deferred_word s.deferreds ++ l.values))));
  long = l.long;
  refs = l.refs;
  many = l.many;
  ended = l.ended;
}
put_next Refs words s by n l e = record {
  raw = l.raw;
  values = l.values;
  words_are = ap (λ (ws : List ℕ). set ws 1 n) l.words_are ∙
      (λ j. s.next_fiber ∷ e j ∷ s.next_deferred ∷ (map cell_word s.cells ++ (l.raw ++ (map deferred_word s.deferreds ++ l.values))));
  long = l.long;
  refs = l.refs;
  many = l.many;
  ended = l.ended;
}
put_next Deferreds words s by n l e = record {
  raw = l.raw;
  values = l.values;
  words_are = ap (λ (ws : List ℕ). set ws 2 n) l.words_are ∙
      (λ j. s.next_fiber ∷ s.next_ref ∷ e j ∷ (map cell_word s.cells ++ (l.raw ++ (map deferred_word s.deferreds ++ l.values))));
  long = l.long;
  refs = l.refs;
  many = l.many;
  ended = l.ended;
}

-- ---- a word that is only read
pub same_words : (words : List ℕ) (s : Cells) (i : ℕ) → Leaves words s → Leaves (set words i (get_or words i 0)) s
same_words words s i l = subst (λ (ws : List ℕ). Leaves ws s) (sym (set-get_or words i 0)) l

-- ---- the words at the opening
fresh_word : cell_word fresh ≡ 0
unfolding word_of control
fresh_word = refl

fresh_words : (n : ℕ) → replicate n 0 ≡ map cell_word (replicate n fresh)
fresh_words zero = refl
fresh_words (suc n) = λ j. sym fresh_word j ∷ fresh_words n j

empty_words : (n : ℕ) → replicate n 0 ≡ map deferred_word (replicate n None)
empty_words zero = refl
empty_words (suc n) = λ j. 0 ∷ empty_words n j

replicate-add : (m n : ℕ) → replicate {A = ℕ} (m + n) 0 ≡ replicate m 0 ++ replicate n 0
replicate-add zero n = let e : 0 + n ≡ n = omega arith in ap (λ (x : ℕ). replicate {A = ℕ} x 0) e
replicate-add (suc m) n = let e : suc m + n ≡ suc (m + n) = omega arith in ap (λ (x : ℕ). replicate {A = ℕ} x 0) e ∙
    ap (λ (l : List ℕ). 0 ∷ l) (replicate-add m n)

zero_refs : (n r : ℕ) → get_or (replicate n 0) r 0 % 2 ^ 63 ≡ value_bits (get_or (replicate n (pos 0)) r (pos 0))
zero_refs zero r = refl
zero_refs (suc n) zero = refl
zero_refs (suc n) (suc r) = zero_refs n r

-- no fiber has ended
none_ended : (n f : ℕ) (o : Outcome) → (get_or (replicate n fresh) f fresh).stage ≡ Ended o → ⊥
none_ended n f o e = let running : Running ≡ Ended o = sym (ap (λ (c : Cell). c.stage) (get_or-replicate_default fresh n f)) ∙ e in cc

-- all words are 0 but the fibers' claim word, which is 1
pub opening_words : (k : Limits) (words : List ℕ) → words ≡ set (replicate (k.fibers + k.refs + k.deferreds + k.fibers + 3) 0) 0 1 → Leaves words (opening k)
opening_words k words is =
    let three : k.fibers + k.refs + k.deferreds + k.fibers + 3 ≡ suc (suc (suc (k.fibers + (k.refs + (k.deferreds + k.fibers))))) = omega arith in
    let behind : replicate (k.deferreds + k.fibers) 0 ≡ map deferred_word (replicate k.deferreds None) ++ replicate k.fibers 0 =
    replicate-add k.deferreds k.fibers ∙ ap (λ (l : List ℕ). l ++ replicate k.fibers 0) (empty_words k.deferreds) in
    let all : replicate (k.fibers + (k.refs + (k.deferreds + k.fibers))) 0 ≡ map cell_word (replicate k.fibers fresh) ++
    (replicate k.refs 0 ++ (map deferred_word (replicate k.deferreds None) ++ replicate k.fibers 0)) =
    replicate-add k.fibers (k.refs + (k.deferreds + k.fibers))
    ∙ (λ j. fresh_words k.fibers j ++ (replicate-add k.refs (k.deferreds + k.fibers) ∙ ap (λ (l : List ℕ). replicate k.refs 0 ++ l) behind) j) in
    record {
      raw = replicate k.refs 0;
      values = replicate k.fibers 0;
      words_are = is ∙ ap (λ n. set (replicate n 0) 0 1) three ∙ (λ j. 1 ∷ 0 ∷ 0 ∷ all j);
      long = length-replicate k.refs 0 ∙ sym (length-replicate k.refs (pos 0));
      refs = zero_refs k.refs;
      many = length-replicate k.fibers 0 ∙ sym (length-replicate k.fibers fresh);
      ended = λ f o e. absurd (none_ended k.fibers f o e);
    }
