-- The tokens of a text, each with its place.
use Rattle.std.specs.Prelude.{◌==◌, ◌&&◌, ◌||◌, ◌^◌, ℕ, suc, ℤ, pos, Bool, true, false, nat_lt, nat_le, List, [], ◌∷◌}
use Rattle.std.specs.Prelude.{length, drop, Option, Some, None, if◌then◌else◌, neg_ℤ}
use Rattle.std.specs.Str.Parse.{digits_value}

-- a token: a bracket, an identifier, a number, a run that begins like a number and isn't one, or a byte that begins no
-- token
pub data Lexeme : Type 0 where
  opens : Lexeme
  closes : Lexeme
  called : List ℕ → Lexeme
  number : ℤ → Lexeme
  bad_number : Lexeme
  bad_byte : Lexeme

-- a token and the number of bytes before it
pub record Placed : Type 0 where
  pub lexeme : Lexeme
  pub place : ℕ

-- space, tab, carriage return, line feed
abbrev pub is_space : ℕ → Bool
is_space b = (b == 32) || (b == 9) || (b == 13) || (b == 10)

abbrev pub is_letter : ℕ → Bool
is_letter b = nat_le 97 b && nat_le b 122

abbrev pub is_digit : ℕ → Bool
is_digit b = nat_le 48 b && nat_le b 57

abbrev pub is_run : ℕ → Bool
is_run b = is_letter b || is_digit b

-- the bytes up to the first that ends a run
abbrev pub run_of : List ℕ → List ℕ
run_of [] = []
run_of (b ∷ bs) = if is_run b then b ∷ run_of bs else []

abbrev pub all_digits : List ℕ → Bool
all_digits [] = true
all_digits (b ∷ bs) = is_digit b && all_digits bs

-- digits of a number, without a leading 0
abbrev pub is_plain : List ℕ → Bool
is_plain [] = false
is_plain (b ∷ bs) = nat_lt 48 b && all_digits (b ∷ bs)

-- 0, or digits without a leading 0, with or without a minus sign, within 63 bits with sign
unfoldable pub number_of : List ℕ → Option ℤ
number_of [] = None
number_of (b ∷ bs) =
    if (b == 48) && (length bs == 0) then Some (pos 0)
    else if is_plain (b ∷ bs) && nat_lt (digits_value 10 (b ∷ bs)) (2 ^ 62) then Some (pos (digits_value 10 (b ∷ bs)))
    else if (b == 45) && is_plain bs && nat_le (digits_value 10 bs) (2 ^ 62) then
    Some (neg_ℤ (pos (digits_value 10 bs)))
    else None

unfoldable pub numbered : Option ℤ → Lexeme
numbered (Some n) = number n
numbered None = bad_number

-- the token that begins with this byte, which is followed by these bytes
unfoldable pub lexeme_of : ℕ → List ℕ → Lexeme
lexeme_of b bs =
    if b == 40 then opens
    else if b == 41 then closes
    else if is_letter b then called (b ∷ run_of bs)
    else if is_digit b || (b == 45) then numbered (number_of (b ∷ run_of bs))
    else bad_byte

-- the tokens of these bytes; the first byte has this place. Inside a run, the rest of the run belongs to the token
-- before
unfoldable pub lexemes : Bool → ℕ → List ℕ → List Placed
lexemes inside at [] = []
lexemes inside at (b ∷ bs) =
    if inside && is_run b then lexemes true (suc at) bs
    else if is_space b then lexemes false (suc at) bs
    else record { lexeme = lexeme_of b bs; place = at } ∷ lexemes (is_run b || (b == 45)) (suc at) bs

-- the tokens of a text from this place on
unfoldable pub lexemes_at : ℕ → List ℕ → List Placed
lexemes_at at text = lexemes false at (drop at text)
