-- A text without the spaces that mean nothing.
use Rattle.std.specs.Prelude.{◌==◌, ◌||◌, ◌-◌, ℕ, Bool, if◌then◌else◌, List, [], ◌∷◌, ◌++◌, length, take}
use Rattle.std.specs.Prelude.{slice_index_or}
use Rattle.std.specs.List.{fold}

-- space, tab, carriage return, line feed
abbrev pub is_space : ℕ → Bool
is_space b = (b == 32) || (b == 9) || (b == 13) || (b == 10)

-- the last byte, or an opening bracket if there is none
abbrev pub in_front : List ℕ → ℕ
in_front text = slice_index_or text (length text - 1) 40

-- the text with a space at its end, unless it ends with a space or an opening bracket
abbrev pub loose : List ℕ → List ℕ
loose text = if (in_front text == 40) || (in_front text == 32) then text else text ++ 32 ∷ []

-- the text without a space at its end
abbrev pub tight : List ℕ → List ℕ
tight text = if in_front text == 32 then take (length text - 1) text else text

-- the text before a byte that is no space: it ends with a space before an opening bracket and after a closing one, and
-- without a space before a closing one
abbrev pub made_ready : List ℕ → ℕ → List ℕ
made_ready text b =
    if b == 41 then tight text
    else if (b == 40) || (in_front text == 41) then loose text
    else text

-- the text with one more byte
abbrev pub with_byte : List ℕ → ℕ → List ℕ
with_byte text b = if is_space b then loose text else made_ready text b ++ b ∷ []

-- the text with one space between any two tokens, but none after an opening bracket and none before a closing one
abbrev pub spaced_text : List ℕ → List ℕ
spaced_text text = tight (fold with_byte [] text)
