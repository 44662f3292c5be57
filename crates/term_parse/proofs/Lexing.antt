-- One byte of a text, as the tokens see it.
use Prim.Native.Nat.{zero}
use Rattle.std.proofs.Common.{◌≡◌, ◌≤◌, ◌<◌, ◌+◌, ◌-◌, ◌*◌, ◌/◌, ◌^◌, ◌==◌, ◌||◌, ◌&&◌, ℕ, suc, Bool, true, false, nat_lt, nat_le, List, [], ◌∷◌, ◌++◌, length}
use Rattle.std.proofs.Common.{get_or, take, drop, refl, ap, sym, ◌∙◌, arith, rules, length-drop, append_assoc, drop-cons, add-one, pos, neg_ℤ, None}
use Rattle.std.proofs.{Math.Seq.take-suc, lemmas.{List.get_or-drop, Bool.Decides.nat_tests, Grind.common_steps, Int.Digits.digits_value_more}}
use Rattle.std.{proofs.lemmas.Str.Parse.digits_value-take-le, specs.{List.slice_range, Char.digit_value, Str.Parse.digits_value}}
use Rattle.effect_term.specs.Values.{IsValue}
use Rattle.term_parse.specs.{Lexemes.{is_space, is_digit, is_letter, is_run, run_of, all_digits, is_plain, lexeme_of, lexemes, lexemes_at}, Seen.lexeme_as}
use Rattle.term_parse.specs.{Seen.{plain_value, seen_kind, IsNext}, declared.token.TokenKind.TokenKind}

lexemes-space : (b at : ℕ) (bs : List ℕ) → is_space b ≡ true → lexemes false at (b ∷ bs) ≡ lexemes false (suc at) bs
unfolding lexemes
lexemes-space b at bs h = rw h refl

lexemes-run : (b at : ℕ) (bs : List ℕ) → is_run b ≡ true → lexemes true at (b ∷ bs) ≡ lexemes true (suc at) bs
unfolding lexemes
lexemes-run b at bs h = rw h refl

lexemes-run_over : (b at : ℕ) (bs : List ℕ) → is_run b ≡ false → lexemes true at (b ∷ bs) ≡ lexemes false at (b ∷ bs)
unfolding lexemes
lexemes-run_over b at bs h = rw h refl

lexemes-token : (b at : ℕ) (bs : List ℕ) → is_space b ≡ false →
    lexemes false at (b ∷ bs) ≡ record { lexeme = lexeme_of b bs; place = at } ∷ lexemes (is_run b || (b == 45)) (suc at) bs
unfolding lexemes
lexemes-token b at bs h = rw h refl

run_of-more : (b : ℕ) (bs : List ℕ) → is_run b ≡ true → run_of (b ∷ bs) ≡ b ∷ run_of bs
run_of-more b bs h = rw h refl

run_of-over : (b : ℕ) (bs : List ℕ) → is_run b ≡ false → run_of (b ∷ bs) ≡ []
run_of-over b bs h = rw h refl

pub skip_space : (text : List ℕ) (at : ℕ) → at < length text → is_space (get_or text at 0) ≡ true → lexemes_at at text ≡ lexemes_at (at + 1) text
unfolding lexemes_at
skip_space text at h s = rw (add-one, drop-cons text at 0 h) (lexemes-space (get_or text at 0) at (drop (suc at) text) s)

slice_more : (text : List ℕ) (from at : ℕ) → from ≤ at → at < length text → slice_range text from (at + 1) ≡ slice_range text from at ++ (get_or text at 0 ∷ [])
slice_more text from at f h =
    let n : at + 1 - from ≡ suc (at - from) = omega arith in
    let m : from + (at - from) ≡ at = omega arith in
    rw (n, take-suc (drop from text) (at - from) 0 (omega (arith, length-drop {A = ℕ})), get_or-drop from text (at - from) 0, m) refl

-- a run from one place on, as far as another
pub record RunsTo (text : List ℕ) (from at : ℕ) : Type 0 where
  pub low : from ≤ at
  pub high : at ≤ length text
  pub run : slice_range text from at ++ run_of (drop at text) ≡ run_of (drop from text)
  pub skipped : lexemes true from (drop from text) ≡ lexemes true at (drop at text)

pub run_goes_on : (text : List ℕ) (from at : ℕ) → RunsTo text from at → at < length text → is_run (get_or text at 0) ≡ true → RunsTo text from (at + 1)
run_goes_on text from at r h s =
    let b = get_or text at 0 in
    let d : drop at text ≡ b ∷ drop (at + 1) text = rw add-one (drop-cons text at 0 h) in
    record {
      low = omega (arith, r.low);
      high = omega arith;
      run = rw (slice_more text from at r.low h, append_assoc)
          (ap (λ x. slice_range text from at ++ x) (sym (run_of-more b (drop (at + 1) text) s) ∙ ap run_of (sym d)) ∙ r.run);
      skipped = r.skipped ∙ ap (lexemes true at) d ∙ lexemes-run b at (drop (at + 1) text) s ∙ ap (λ n. lexemes true n (drop (at + 1) text)) (sym (add-one at));
    }

pub record RunIs (text : List ℕ) (from at : ℕ) : Type 0 where
  pub run : slice_range text from at ≡ run_of (drop from text)
  pub skipped : lexemes true from (drop from text) ≡ lexemes_at at text

pub run_stops : (text : List ℕ) (from at : ℕ) → RunsTo text from at → at < length text → is_run (get_or text at 0) ≡ false → RunIs text from at
unfolding lexemes_at
run_stops text from at r h s =
    let b = get_or text at 0 in
    let d : drop at text ≡ b ∷ drop (suc at) text = drop-cons text at 0 h in
    let none : run_of (drop at text) ≡ [] = ap run_of d ∙ run_of-over b (drop (suc at) text) s in
    record {
      run = sym (ap (λ x. slice_range text from at ++ x) none ∙ search rules) ∙ r.run;
      skipped = r.skipped ∙ ap (lexemes true at) d ∙ lexemes-run_over b at (drop (suc at) text) s ∙ ap (lexemes false at) (sym d);
    }

pub run_ends : (text : List ℕ) (from at : ℕ) → RunsTo text from at → length text ≤ at → RunIs text from at
unfolding lexemes_at lexemes
run_ends text from at r h =
    let d : drop at text ≡ [] = grind (arith, common_steps) in
    record {
      run = sym (ap (λ x. slice_range text from at ++ x) (ap run_of d) ∙ search rules) ∙ r.run;
      skipped = r.skipped ∙ rw d refl;
    }

pub no_tokens : (text : List ℕ) (at : ℕ) → length text ≤ at → lexemes_at at text ≡ []
unfolding lexemes_at lexemes
no_tokens text at h =
    let d : drop at text ≡ [] = grind (arith, common_steps) in
    rw d refl

and_keeps : (x y z : Bool) → (y ≡ true → z ≡ true) → (x && y) ≡ true → (x && z) ≡ true
and_keeps true y z f h = f h
and_keeps false y z f h = h

and_fails : (x y : Bool) → y ≡ false → (x && y) ≡ false
and_fails true y h = h
and_fails false y h = refl

digits_more_suc : (ds : List ℕ) (i : ℕ) → i < length ds → all_digits (take i ds) ≡ true → is_digit (get_or ds i 0) ≡ true → all_digits (take (suc i) ds) ≡ true
digits_more_suc [] i h a d = absurd (omega arith)
digits_more_suc (b ∷ bs) zero h a d = rw d refl
digits_more_suc (b ∷ bs) (suc i) h a d =
    and_keeps (is_digit b) (all_digits (take i bs)) (all_digits (take (suc i) bs)) (λ r. digits_more_suc bs i (omega arith) r d) a

-- the digits of a number
pub digits_more : (ds : List ℕ) (i : ℕ) → i < length ds → all_digits (take i ds) ≡ true → is_digit (get_or ds i 0) ≡ true → all_digits (take (i + 1) ds) ≡ true
digits_more ds i h a d = rw add-one (digits_more_suc ds i h a d)

pub digits_fail : (ds : List ℕ) (i : ℕ) → i < length ds → is_digit (get_or ds i 0) ≡ false → all_digits ds ≡ false
digits_fail [] i h d = absurd (omega arith)
digits_fail (b ∷ bs) zero h d = rw d refl
digits_fail (b ∷ bs) (suc i) h d = and_fails (is_digit b) (all_digits bs) (digits_fail bs i (omega arith) d)

slice_first : (text : List ℕ) (at end : ℕ) → at < end → at < length text → slice_range text at end ≡ get_or text at 0 ∷ slice_range text (at + 1) end
slice_first text at end h l =
    let n : end - at ≡ suc (end - (at + 1)) = omega arith in
    rw (n, drop-cons text at 0 l, add-one) refl

pub token_begins : (text : List ℕ) (at : ℕ) → at < length text → is_space (get_or text at 0) ≡ false →
    lexemes_at at text ≡ record { lexeme = lexeme_of (get_or text at 0) (drop (at + 1) text); place = at } ∷ lexemes
    (is_run (get_or text at 0) || (get_or text at 0 == 45)) (at + 1) (drop (at + 1) text)
unfolding lexemes_at
token_begins text at h s = rw (add-one, drop-cons text at 0 h) (lexemes-token (get_or text at 0) at (drop (suc at) text) s)

-- a token that is a run
pub long_token : (text : List ℕ) (at end : ℕ) (k : TokenKind) → at < length text → is_space (get_or text at 0) ≡ false →
    (is_run (get_or text at 0) || (get_or text at 0 == 45)) ≡ true → at + 1 ≤ end → end ≤ length text →
    slice_range text (at + 1) end ≡ run_of (drop (at + 1) text) → lexemes true (at + 1) (drop (at + 1) text) ≡ lexemes_at end text →
    seen_kind (slice_range text at end) k ≡ lexeme_as (get_or text at 0) (slice_range text at end) → IsNext text at (record { kind = k; start = at; end = end })
unfolding lexeme_of lexeme_as
long_token text at end k h s r low high run skipped kind =
    let b = get_or text at 0 in
    let bytes : slice_range text at end ≡ b ∷ run_of (drop (at + 1) text) = slice_first text at end (omega arith) h ∙ ap (λ x. b ∷ x) run in
    let same : seen_kind (slice_range text at end) k ≡ lexeme_of b (drop (at + 1) text) = kind ∙ ap (lexeme_as b) bytes in
    record {
      tokens = token_begins text at h s ∙
          ap (λ x. record { lexeme = lexeme_of b (drop (at + 1) text); place = at } ∷ lexemes x (at + 1) (drop (at + 1) text)) r ∙
          ap (λ x. record { lexeme = lexeme_of b (drop (at + 1) text); place = at } ∷ x) skipped ∙
          ap (λ x. record { lexeme = x; place = at } ∷ lexemes_at end text) (sym same);
      within = high;
      later = omega arith;
      some = omega arith;
    }

or_fails : (l d m : Bool) → ((l || d) || m) ≡ false → (l ≡ false) × ((d || m) ≡ false)
or_fails true d m h = cc
or_fails false d m h = (refl, h)

-- only identifiers and numbers are runs
lexeme_as-short : (b : ℕ) (x y : List ℕ) → (is_run b || (b == 45)) ≡ false → lexeme_as b x ≡ lexeme_as b y
unfolding lexeme_as
lexeme_as-short b x y h =
    let o = or_fails (is_letter b) (is_digit b) (b == 45) h in
    rw (o.0, o.1) refl

-- a token of one byte
pub short_token : (text : List ℕ) (at : ℕ) (k : TokenKind) → at < length text → is_space (get_or text at 0) ≡ false →
    (is_run (get_or text at 0) || (get_or text at 0 == 45)) ≡ false →
    seen_kind (slice_range text at (at + 1)) k ≡ lexeme_as (get_or text at 0) (slice_range text at (at + 1)) →
    IsNext text at (record { kind = k; start = at; end = at + 1 })
unfolding lexeme_of lexeme_as lexemes_at
short_token text at k h s r kind =
    let b = get_or text at 0 in
    let same : seen_kind (slice_range text at (at + 1)) k ≡ lexeme_of b (drop (at + 1) text) = kind ∙
    lexeme_as-short b (slice_range text at (at + 1)) (b ∷ run_of (drop (at + 1) text)) r in
    record {
      tokens = token_begins text at h s ∙
          ap (λ x. record { lexeme = lexeme_of b (drop (at + 1) text); place = at } ∷ lexemes x (at + 1) (drop (at + 1) text)) r ∙
          ap (λ x. record { lexeme = x; place = at } ∷ lexemes_at (at + 1) text) (sym same);
      within = omega arith;
      later = omega arith;
      some = omega arith;
    }

pub plain_none : (ds : List ℕ) → all_digits ds ≡ false → None ≡ plain_value ds
unfolding plain_value
plain_none [] h = refl
plain_none (b ∷ bs) h = rw (and_fails (nat_lt 48 b) (all_digits (b ∷ bs)) h) refl

pub plain_large : (ds : List ℕ) → 2 ^ 62 < digits_value 10 ds → None ≡ plain_value ds
unfolding plain_value
plain_large ds h =
    let n : nat_le (digits_value 10 ds) (2 ^ 62) ≡ false = grind (arith, nat_tests) in
    rw (and_fails (is_plain ds) (nat_le (digits_value 10 ds) (2 ^ 62)) n) refl

pub value_more : (ds : List ℕ) (i v r : ℕ) → i < length ds → is_digit (get_or ds i 0) ≡ true → r ≡ get_or ds i 0 - 48 →
    v ≡ digits_value 10 (take i ds) → v * 10 + r ≡ digits_value 10 (take (i + 1) ds)
value_more ds i v r h d e value =
    let worth : digit_value (get_or ds i 0) ≡ get_or ds i 0 - 48 = grind (arith, nat_tests) in
    rw (digits_value_more 10 ds i h, worth, value, e) refl

-- one more digit makes a value too large that is more than a tenth of the largest
pub value_over : (ds : List ℕ) (i v : ℕ) → i < length ds → v ≡ digits_value 10 (take i ds) → 2 ^ 62 / 10 < v →
    None ≡ plain_value ds
value_over ds i v h value l =
    let more = digits_value_more 10 ds i h in
    plain_large ds (omega (arith, digits_value-take-le 10 ds (i + 1) (omega arith), more))

-- a number behind a minus sign
pub below_zero : (n : ℕ) → n ≤ 2 ^ 62 → IsValue (neg_ℤ (pos n))
below_zero zero h = omega arith
below_zero (suc n) h = omega arith
