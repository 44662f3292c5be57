-- What the 63 bits of a value tell.
use Rattle.std.proofs.Common.{◌≡◌, ℕ, ◌+◌, ◌-◌, ◌%◌, ◌^◌, ◌<◌, ◌≤◌, suc, ◌⊎◌, refl, sym, ap, ◌∙◌, subst, arith, ℤ, pos, negsuc, ◌+ℤ◌, inl, inr}
use Rattle.std.proofs.lemmas.{Bool.{lt-ltb, le-ltb, cases_lt}, Int.ints}
use Rattle.effect_term.specs.Values.{IsValue, value_bits, bits_value, wrapped}

-- the bits are below 2 ^ 63
pub bits_lt : (z : ℤ) → value_bits z < 2 ^ 63
bits_lt (pos n) = omega arith
bits_lt (negsuc n) = omega arith

-- ---- the value with these bits, on either side of 2 ^ 62
pub low_value : (n : ℕ) → n < 2 ^ 62 → bits_value n ≡ pos n
low_value n h = rw (lt-ltb n (2 ^ 62) h) refl

pub high_value : (n : ℕ) → 2 ^ 62 ≤ n → bits_value n ≡ negsuc (2 ^ 63 - 1 - n)
high_value n h = rw (le-ltb n (2 ^ 62) h) refl

-- 63 bits are a value's
pub is_value : (n : ℕ) → n < 2 ^ 63 → IsValue (bits_value n)
is_value n h = elim (cases_lt n (2 ^ 62)) [
  | inl a ↦ rw (low_value n a) a
  | inr a ↦ rw (high_value n a) (omega arith)
]

-- the bits of that value are they
pub forth : (n : ℕ) → n < 2 ^ 63 → value_bits (bits_value n) ≡ n
forth n h = elim (cases_lt n (2 ^ 62)) [
  | inl a ↦ rw (low_value n a) (omega arith)
  | inr a ↦ rw (high_value n a) (omega arith)
]

-- a value is told by its bits
pub back : (z : ℤ) → IsValue z → bits_value (value_bits z) ≡ z
back (pos n) h =
    let is : n % 2 ^ 63 ≡ n = omega arith in
    ap bits_value is ∙ low_value n h
back (negsuc n) h =
    let is : 2 ^ 63 - 1 - n % 2 ^ 63 ≡ 2 ^ 63 - 1 - n = omega arith in
    let again : 2 ^ 63 - 1 - (2 ^ 63 - 1 - n) ≡ n = omega arith in
    ap bits_value is ∙ high_value (2 ^ 63 - 1 - n) (omega arith) ∙ ap negsuc again

pub one : (v w : ℤ) → IsValue v → IsValue w → value_bits v ≡ value_bits w → v ≡ w
one v w f g e = sym (back v f) ∙ ap bits_value e ∙ back w g

-- a number that its bits give back is a value
pub from_bits : (z : ℤ) (n : ℕ) → n ≡ value_bits z → bits_value n ≡ z → IsValue z
from_bits z n is e = subst IsValue (ap bits_value (sym is) ∙ e) (is_value (value_bits z) (bits_lt z))

-- ---- what is left of a number in 63 bits
pub wrapped_is_value : (z : ℤ) → IsValue (wrapped z)
unfolding wrapped
wrapped_is_value z = is_value (value_bits z) (bits_lt z)

-- the bits of a sum are the sum of the bits, modulo 2 ^ 63
less : (m n : ℕ) → m < 2 ^ 62 → n < 2 ^ 62 → (m % 2 ^ 63 + (2 ^ 63 - 1 - n % 2 ^ 63)) % 2 ^ 63 ≡ value_bits (pos m +ℤ negsuc n)
less m n f g = by (cases_lt n m)
  where
    by : (n < m) ⊎ (m ≤ n) → (m % 2 ^ 63 + (2 ^ 63 - 1 - n % 2 ^ 63)) % 2 ^ 63 ≡ value_bits (pos m +ℤ negsuc n)
    by (inl a) =
        let e : pos m +ℤ negsuc n ≡ pos (m - suc n) = omega (arith, ints) in
        omega arith ∙ ap value_bits (sym e)
    by (inr a) =
        let e : pos m +ℤ negsuc n ≡ negsuc (n - m) = omega (arith, ints) in
        omega arith ∙ ap value_bits (sym e)

pub sum_bits : (y x : ℤ) → IsValue y → IsValue x → (value_bits y + value_bits x) % 2 ^ 63 ≡ value_bits (y +ℤ x)
sum_bits (pos m) (pos n) f g = omega arith
sum_bits (negsuc m) (negsuc n) f g = omega arith
sum_bits (pos m) (negsuc n) f g = less m n f g
sum_bits (negsuc m) (pos n) f g =
    let turned : pos n +ℤ negsuc m ≡ negsuc m +ℤ pos n = omega (arith, ints) in
    omega arith ∙ less n m g f ∙ ap value_bits turned
