-- The tokens of a text, each with its place.
use Rattle.std.specs.Prelude.{◌==◌, ◌||◌, ℕ, suc, Bool, true, false, List, [], ◌∷◌, ◌++◌, drop, Option, Some, None}
use Rattle.std.specs.Prelude.{if◌then◌else◌}
use Rattle.model_forms.specs.declared.token.Class.{Class}
use Rattle.model_forms.specs.declared.token.Class.TheVariants.{Space, Comment, Open, Close, Quote, Plain}

-- a token: a bracket, a word, the bytes between two quotes of one line, or a quote with no other on its line
pub data Lexeme : Type 0 where
  opens : Lexeme
  closes : Lexeme
  word : List ℕ → Lexeme
  quoted : List ℕ → Lexeme
  unclosed : Lexeme

-- a token and the number of bytes before it
pub record Placed : Type 0 where
  pub lexeme : Lexeme
  pub place : ℕ

-- where a byte is: between tokens, or inside a word, a string or a comment
pub data Within : Type 0 where
  between : Within
  in_word : Within
  in_string : Within
  in_comment : Within

-- Space, tab, carriage return and line feed are space. A semicolon begins a comment, and a quote a string.
unfoldable pub class_of : ℕ → Class
class_of b =
    if (b == 32) || (b == 9) || (b == 13) || (b == 10) then Space
    else if b == 59 then Comment
    else if b == 40 then Open
    else if b == 41 then Close
    else if b == 34 then Quote
    else Plain

-- bytes of this class continue a word
abbrev pub is_plain : Class → Bool
is_plain Plain = true
is_plain Space = false
is_plain Comment = false
is_plain Open = false
is_plain Close = false
is_plain Quote = false

-- a quote, or the end of a line
abbrev pub ends_string : ℕ → Bool
ends_string b = (b == 34) || (b == 10)

-- the bytes up to the first that doesn't continue a word
abbrev pub word_of : List ℕ → List ℕ
word_of [] = []
word_of (b ∷ bs) = if is_plain (class_of b) then b ∷ word_of bs else []

abbrev pub before_all : ℕ → Option (List ℕ) → Option (List ℕ)
before_all b None = None
before_all b (Some bs) = Some (b ∷ bs)

-- the bytes up to the next quote, if there is one on this line
abbrev pub string_of : List ℕ → Option (List ℕ)
string_of [] = None
string_of (b ∷ bs) = if b == 34 then Some [] else if b == 10 then None else before_all b (string_of bs)

abbrev pub string_lexeme : Option (List ℕ) → Lexeme
string_lexeme (Some bs) = quoted bs
string_lexeme None = unclosed

-- the token that begins with the byte `b` of this class, if one does; the bytes `bs` follow `b`
abbrev pub token_of : Class → ℕ → ℕ → List ℕ → List Placed
token_of Space at b bs = []
token_of Comment at b bs = []
token_of Open at b bs = record { lexeme = opens; place = at } ∷ []
token_of Close at b bs = record { lexeme = closes; place = at } ∷ []
token_of Quote at b bs = record { lexeme = string_lexeme (string_of bs); place = at } ∷ []
token_of Plain at b bs = record { lexeme = word (b ∷ word_of bs); place = at } ∷ []

-- the token that begins with the byte `b`, if one does; the bytes `bs` follow `b`
unfoldable pub begun : Within → ℕ → ℕ → List ℕ → List Placed
begun between at b bs = token_of (class_of b) at b bs
begun in_word at b bs = if is_plain (class_of b) then [] else token_of (class_of b) at b bs
begun in_string at b bs = []
begun in_comment at b bs = []

-- where the byte behind a byte of this class is
abbrev pub behind : Class → Within
behind Space = between
behind Comment = in_comment
behind Open = between
behind Close = between
behind Quote = in_string
behind Plain = in_word

unfoldable pub after : Within → ℕ → Within
after between b = behind (class_of b)
after in_word b = behind (class_of b)
after in_string b = if ends_string b then between else in_string
after in_comment b = if b == 10 then between else in_comment

-- the tokens that begin in these bytes; the first byte is within `w`, and its place is `at`
unfoldable pub lexemes : Within → ℕ → List ℕ → List Placed
lexemes w at [] = []
lexemes w at (b ∷ bs) = begun w at b bs ++ lexemes (after w b) (suc at) bs

-- the tokens of a text from the place `at` on
unfoldable pub lexemes_at : ℕ → List ℕ → List Placed
lexemes_at at text = lexemes between at (drop at text)
