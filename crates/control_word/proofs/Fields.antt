-- The fields of a word, one by one.
use Rattle.std.proofs.{Common.{◌≡◌, ℕ, ◌+◌, ◌*◌, ◌/◌, ◌%◌, ◌^◌, ◌<◌, Bool, true, false, refl, sym, ap, ◌∙◌, arith, eqb}, lemmas.Nat.or_block}
use Rattle.std.specs.{Prelude.bit_or, Int.Bits.or_zero_r}
use Rattle.control_word.specs.{declared.control.Control.Control, Word.{bit, InRange, word_of, control_of}}

-- the sum of the fields, by plain numbers
abbrev pub total : ℕ → ℕ → ℕ → ℕ → ℕ → ℕ → ℕ
total a d p k x w = a + 2 ^ 40 * d + 2 ^ 48 * p + 2 ^ 50 * k + 2 ^ 52 * x + 2 ^ 53 * w

pub bit_lt : (b : Bool) → bit b < 2
bit_lt true = omega arith
bit_lt false = omega arith

pub count_at : (a d p k x w : ℕ) → a < 2 ^ 40 → total a d p k x w / 2 ^ 0 % 2 ^ 40 ≡ a
count_at a d p k x w h = omega arith

pub depth_at : (a d p k x w : ℕ) → a < 2 ^ 40 → d < 2 ^ 8 → total a d p k x w / 2 ^ 40 % 2 ^ 8 ≡ d
depth_at a d p k x w h i = omega arith

pub phase_at : (a d p k x w : ℕ) → a < 2 ^ 40 → d < 2 ^ 8 → p < 2 ^ 2 → total a d p k x w / 2 ^ 48 % 2 ^ 2 ≡ p
phase_at a d p k x w h i j = omega arith

pub kind_at : (a d p k x w : ℕ) → a < 2 ^ 40 → d < 2 ^ 8 → p < 2 ^ 2 → k < 2 ^ 2 → total a d p k x w / 2 ^ 50 % 2 ^ 2 ≡ k
kind_at a d p k x w h i j l = omega arith

pub cancel_at : (a d p k x w : ℕ) → a < 2 ^ 40 → d < 2 ^ 8 → p < 2 ^ 2 → k < 2 ^ 2 → x < 2 → total a d p k x w / 2 ^ 52 % 2 ^ 1 ≡ x
cancel_at a d p k x w h i j l m = omega arith

pub waited_at : (a d p k x w : ℕ) → a < 2 ^ 40 → d < 2 ^ 8 → p < 2 ^ 2 → k < 2 ^ 2 → x < 2 → w < 2 → total a d p k x w / 2 ^ 53 % 2 ^ 1 ≡ w
waited_at a d p k x w h i j l m n = omega arith

pub bit_back : (b : Bool) → eqb (bit b) 1 ≡ b
bit_back true = refl
bit_back false = refl

pub word_is : (c : Control) → word_of c ≡ total c.count c.depth c.phase c.kind (bit c.cancel) (bit c.waited)
unfolding word_of
word_is c = refl

-- the fields of a packed word are those that it was packed from
pub unpacked : (c : Control) → InRange c → control_of (word_of c) ≡ c
unfolding control_of
unpacked c h =
    let h1 = h.count in let h2 = h.depth in let h3 = h.phase in let h4 = h.kind in
    let h5 = bit_lt c.cancel in let h6 = bit_lt c.waited in
    rw word_is (λ i. record {
      count = count_at c.count c.depth c.phase c.kind (bit c.cancel) (bit c.waited) h1 i;
      depth = depth_at c.count c.depth c.phase c.kind (bit c.cancel) (bit c.waited) h1 h2 i;
      phase = phase_at c.count c.depth c.phase c.kind (bit c.cancel) (bit c.waited) h1 h2 h3 i;
      kind = kind_at c.count c.depth c.phase c.kind (bit c.cancel) (bit c.waited) h1 h2 h3 h4 i;
      cancel = (ap (λ n. eqb n 1) (cancel_at c.count c.depth c.phase c.kind (bit c.cancel) (bit c.waited) h1 h2 h3 h4 h5) ∙ bit_back c.cancel) i;
      waited = (ap (λ n. eqb n 1) (waited_at c.count c.depth c.phase c.kind (bit c.cancel) (bit c.waited) h1 h2 h3 h4 h5 h6) ∙ bit_back c.waited) i;
    })

-- a word is below 2 ^ 64
pub word_lt : (c : Control) → InRange c → word_of c < 2 ^ 64
word_lt c h =
    let h1 = h.count in let h2 = h.depth in let h3 = h.phase in let h4 = h.kind in
    let h5 = bit_lt c.cancel in let h6 = bit_lt c.waited in
    rw word_is (omega arith)

-- ---- setting a bit between those above and those below it
or_one : (b : Bool) → bit_or (bit b) 1 ≡ 1
or_one true = refl
or_one false = refl

or_at_52 : (hi lo : ℕ) (b : Bool) → lo < 2 ^ 52 → bit_or (hi * 2 ^ 53 + (bit b * 2 ^ 52 + lo)) (2 ^ 52) ≡ hi * 2 ^ 53 + (1 * 2 ^ 52 + lo)
or_at_52 hi lo b h =
    let small = bit_lt b in
    or_block 53 hi 0 (bit b * 2 ^ 52 + lo) (2 ^ 52) (omega arith) (omega arith)
    ∙ (λ i. or_zero_r hi i * 2 ^ 53 + (or_block 52 (bit b) 1 lo 0 h (omega arith) ∙ (λ j. or_one b j * 2 ^ 52 + or_zero_r lo j)) i)

or_at_53 : (hi lo : ℕ) (b : Bool) → lo < 2 ^ 53 → bit_or (hi * 2 ^ 54 + (bit b * 2 ^ 53 + lo)) (2 ^ 53) ≡ hi * 2 ^ 54 + (1 * 2 ^ 53 + lo)
or_at_53 hi lo b h =
    let small = bit_lt b in
    or_block 54 hi 0 (bit b * 2 ^ 53 + lo) (2 ^ 53) (omega arith) (omega arith)
    ∙ (λ i. or_zero_r hi i * 2 ^ 54 + (or_block 53 (bit b) 1 lo 0 h (omega arith) ∙ (λ j. or_one b j * 2 ^ 53 + or_zero_r lo j)) i)

-- setting the cancel bit
pub or_cancel : (c : Control) → InRange c → bit_or (word_of c) (2 ^ 52) ≡ word_of (record c { cancel = true })
or_cancel c h =
    let h1 = h.count in let h2 = h.depth in let h3 = h.phase in let h4 = h.kind in
    let low : ℕ = c.count + 2 ^ 40 * c.depth + 2 ^ 48 * c.phase + 2 ^ 50 * c.kind in
    let high : ℕ = bit c.waited in
    let a : word_of c ≡ high * 2 ^ 53 + (bit c.cancel * 2 ^ 52 + low) = word_is c ∙ omega arith in
    let b : high * 2 ^ 53 + (1 * 2 ^ 52 + low) ≡ word_of (record c { cancel = true }) = omega arith ∙ sym (word_is (record c { cancel = true })) in
    ap (λ n. bit_or n (2 ^ 52)) a ∙ or_at_52 high low c.cancel (omega arith) ∙ b

-- setting the waited bit
pub or_waited : (c : Control) → InRange c → bit_or (word_of c) (2 ^ 53) ≡ word_of (record c { waited = true })
or_waited c h =
    let h1 = h.count in let h2 = h.depth in let h3 = h.phase in let h4 = h.kind in let h5 = bit_lt c.cancel in
    let low : ℕ = c.count + 2 ^ 40 * c.depth + 2 ^ 48 * c.phase + 2 ^ 50 * c.kind + 2 ^ 52 * bit c.cancel in
    let high : ℕ = 0 in
    let a : word_of c ≡ high * 2 ^ 54 + (bit c.waited * 2 ^ 53 + low) = word_is c ∙ omega arith in
    let b : high * 2 ^ 54 + (1 * 2 ^ 53 + low) ≡ word_of (record c { waited = true }) = omega arith ∙ sym (word_is (record c { waited = true })) in
    ap (λ n. bit_or n (2 ^ 53)) a ∙ or_at_53 high low c.waited (omega arith) ∙ b
