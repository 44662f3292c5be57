-- The meanings of single words.
use Rattle.std.specs.Prelude.{◌==◌, ◌&&◌, ◌||◌, ◌+◌, ℕ, Bool, true, false, nat_le, List, [], ◌∷◌, Option, Some, None, codes, take, drop}
use Rattle.std.specs.Prelude.{if◌then◌else◌, position}
use Rattle.std.specs.Str.{bytes_eq}
use Rattle.term_parse.specs.Lexemes.{is_digit}
use Rattle.model_text.specs.declared.word.Keyword.{Keyword}
use Rattle.model_text.specs.declared.word.Keyword.TheVariants as keywords

abbrev pub is_letter : ℕ → Bool
is_letter b = (nat_le 97 b && nat_le b 122) || (nat_le 65 b && nat_le b 90)

-- letters, digits, `-` and `_` continue a name
abbrev pub goes_on : ℕ → Bool
goes_on b = is_letter b || is_digit b || (b == 45) || (b == 95)

abbrev pub all_go_on : List ℕ → Bool
all_go_on [] = true
all_go_on (b ∷ bs) = goes_on b && all_go_on bs

-- a name begins with a letter
abbrev pub is_name : List ℕ → Bool
is_name [] = false
is_name (b ∷ bs) = is_letter b && all_go_on bs

-- the kinds that can follow a colon
abbrev pub is_kind : List ℕ → Bool
is_kind bs =
    bytes_eq bs (codes "ref") || bytes_eq bs (codes "deferred") || bytes_eq bs (codes "fiber") || bytes_eq bs (codes "poll")

abbrev pub is_part_split : List ℕ → Option ℕ → Bool
is_part_split bs (Some i) = is_name (take i bs) && is_kind (drop (i + 1) bs)
is_part_split bs None = is_name bs

-- a part of a definition that is a word: a name, for a value, or a name, a colon and a kind
unfoldable pub is_part : List ℕ → Bool
is_part bs = is_part_split bs (position (λ b. b == 58) bs)

abbrev pub is_claim : List ℕ → Bool
is_claim bs =
    bytes_eq bs (codes "want") || bytes_eq bs (codes "must") || bytes_eq bs (codes "can") || bytes_eq bs (codes "always") ||
    bytes_eq bs (codes "ever") || bytes_eq bs (codes "never") || bytes_eq bs (codes "before") || bytes_eq bs (codes "fails") ||
    bytes_eq bs (codes "all-end") || bytes_eq bs (codes "no-deadlock")

abbrev pub is_bound : List ℕ → Bool
is_bound bs =
    bytes_eq bs (codes "worlds") || bytes_eq bs (codes "entries") || bytes_eq bs (codes "fibers") || bytes_eq bs (codes "refs") ||
    bytes_eq bs (codes "deferreds") || bytes_eq bs (codes "count") || bytes_eq bs (codes "times") || bytes_eq bs (codes "seed")

-- the meaning of a word at the head of a list
abbrev pub keyword_of : List ℕ → Option Keyword
keyword_of bs =
    if bytes_eq bs (codes "define") then Some keywords.Define
    else if bytes_eq bs (codes "defaults") then Some keywords.Defaults
    else if bytes_eq bs (codes "model") then Some keywords.Model
    else if bytes_eq bs (codes "run") then Some keywords.Run
    else if is_claim bs then Some keywords.Claim
    else if is_bound bs then Some keywords.Bound
    else None
