-- The meaning of the parser's values.
use Rattle.std.specs.Prelude.{◌≡◌, ◌≤◌, ◌<◌, ◌==◌, ◌&&◌, ◌||◌, ◌^◌, ℕ, List, ◌∷◌, length, slice_range, nat_le}
use Rattle.std.specs.Prelude.{Option, Some, None, if◌then◌else◌}
use Rattle.std.specs.Str.Parse.{digits_value}
use Rattle.term_parse.specs.Lexemes.{Lexeme, opens, closes, called, number, bad_number, bad_byte, is_letter, is_digit}
use Rattle.term_parse.specs.Lexemes.{is_plain, number_of, numbered, lexemes_at}
use Rattle.term_parse.specs.declared.token.Token.{Token}
use Rattle.term_parse.specs.declared.token.TokenKind.{TokenKind}
use Rattle.term_parse.specs.declared.token.TokenKind.TheVariants as tokens

-- the number with these digits, which don't begin with 0, if it is in range behind a minus sign
unfoldable pub plain_value : List ℕ → Option ℕ
plain_value ds = if is_plain ds && nat_le (digits_value 10 ds) (2 ^ 62) then Some (digits_value 10 ds) else None

-- the token with this first byte and these bytes
unfoldable pub lexeme_as : ℕ → List ℕ → Lexeme
lexeme_as b run =
    if b == 40 then opens
    else if b == 41 then closes
    else if is_letter b then called run
    else if is_digit b || (b == 45) then numbered (number_of run)
    else bad_byte

-- a token of this kind and these bytes
abbrev pub seen_kind : List ℕ → TokenKind → Lexeme
seen_kind run tokens.Open = opens
seen_kind run tokens.Close = closes
seen_kind run tokens.Called = called run
seen_kind run (tokens.Number n) = number n
seen_kind run tokens.BadNumber = bad_number
seen_kind run tokens.BadByte = bad_byte

abbrev pub seen : List ℕ → Token → Lexeme
seen text t = seen_kind (slice_range text t.start t.end) t.kind

-- the token isn't a bad one
abbrev pub IsGood : TokenKind → Type 0
IsGood tokens.BadNumber = ⊥
IsGood tokens.BadByte = ⊥
IsGood k = Unit {0}

-- the next token from this place on, and where the tokens after it begin
pub record IsNext (text : List ℕ) (at : ℕ) (t : Token) : Type 0 where
  pub tokens : lexemes_at at text ≡ record { lexeme = seen text t; place = t.start } ∷ lexemes_at t.end text
  pub within : t.end ≤ length text
  pub later : at ≤ t.start
  pub some : t.start < t.end
