-- Values: whole numbers of 63 bits with sign, and how a number wraps into 63 bits.
use Rattle.std.specs.Prelude.{ℕ, ◌-◌, ◌%◌, ◌^◌, ◌<◌, ℤ, pos, negsuc, cond, nat_lt}

-- a whole number of 63 bits: from -2 ^ 62 to 2 ^ 62 - 1
abbrev pub IsValue : ℤ → Type 0
IsValue (pos n) = n < 2 ^ 62
IsValue (negsuc n) = n < 2 ^ 62

-- ---- the 63 bits of a number
-- a number modulo 2 ^ 63
abbrev pub value_bits : ℤ → ℕ
value_bits (pos n) = n % 2 ^ 63
value_bits (negsuc n) = 2 ^ 63 - 1 - n % 2 ^ 63

-- the value with these 63 bits
abbrev pub bits_value : ℕ → ℤ
bits_value n = cond (nat_lt n (2 ^ 62)) (pos n) (negsuc (2 ^ 63 - 1 - n))

-- a number wrapped into 63 bits: the value that differs from it by a multiple of 2 ^ 63
unfoldable pub wrapped : ℤ → ℤ
wrapped z = bits_value (value_bits z)
