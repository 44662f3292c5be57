-- The meaning of the code's tokens.
use Rattle.std.specs.Prelude.{◌≡◌, ◌≢◌, ◌≤◌, ◌<◌, ◌+◌, ◌-◌, ℕ, List, ◌∷◌, length, slice_range, slice_index, drop, Some, None}
use Rattle.model_forms.specs.Lexemes.{Lexeme, opens, closes, word, quoted, unclosed, in_string, string_of, lexemes, lexemes_at}
use Rattle.model_forms.specs.declared.token.Token.{Token}
use Rattle.model_forms.specs.declared.token.TokenKind.{TokenKind}
use Rattle.model_forms.specs.declared.token.TokenKind.TheVariants as tokens

-- the token of this kind from `start` to `end`
abbrev pub seen : List ℕ → TokenKind → ℕ → ℕ → Lexeme
seen text tokens.Open start end = opens
seen text tokens.Close start end = closes
seen text tokens.Word start end = word (slice_range text start end)
seen text tokens.Text start end = quoted (slice_range text (start + 1) (end - 1))
seen text tokens.Unclosed start end = unclosed

-- a closing bracket is one byte
abbrev pub EndsBehind : TokenKind → ℕ → ℕ → Type 0
EndsBehind tokens.Close start end = end ≡ start + 1
EndsBehind tokens.Open start end = Unit {0}
EndsBehind tokens.Word start end = Unit {0}
EndsBehind tokens.Text start end = Unit {0}
EndsBehind tokens.Unclosed start end = Unit {0}

-- `t` is the first token from `at` on, and the tokens behind it are those from its end on
pub record IsNext (text : List ℕ) (at : ℕ) (t : Token) : Type 0 where
  pub tokens : lexemes_at at text ≡ record { lexeme = seen text t.kind t.start t.end; place = t.start } ∷ lexemes_at t.end text
  pub within : t.end ≤ length text
  pub later : at ≤ t.start
  pub some : t.start < t.end
  pub bracket : EndsBehind t.kind t.start t.end

-- the string that continues at `from` ends at `end`
pub record EndsString (text : List ℕ) (from end : ℕ) : Type 0 where
  pub low : from ≤ end
  pub high : end ≤ length text
  pub closed : end < length text → slice_index text end ≡ 34 → string_of (drop from text) ≡ Some (slice_range text from end)
  pub closed_behind : end < length text → slice_index text end ≡ 34 →
      lexemes in_string from (drop from text) ≡ lexemes_at (end + 1) text
  pub broken : (end < length text → slice_index text end ≢ 34) → string_of (drop from text) ≡ None
  pub broken_behind : (end < length text → slice_index text end ≢ 34) →
      lexemes in_string from (drop from text) ≡ lexemes_at end text
