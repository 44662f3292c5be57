-- How a model file begins.
use Rattle.std.specs.Prelude.{◌≡◌, ◌⊎◌, ◌==◌, ◌||◌, ℕ, Bool, true, false, not, if◌then◌else◌, List, [], ◌∷◌, codes}
use Rattle.std.specs.Prelude.{take_while}

-- space, tab, carriage return, line feed
abbrev pub is_space : ℕ → Bool
is_space b = (b == 32) || (b == 9) || (b == 13) || (b == 10)

-- a byte of a word: any but space, a bracket, a quote, and the byte that begins a comment
abbrev pub is_word_byte : ℕ → Bool
is_word_byte b = not (is_space b || (b == 40) || (b == 41) || (b == 59) || (b == 34))

-- the text from its first byte on that is neither space nor in a comment; the first argument is whether the text begins
-- in a comment, which goes on to the end of its line
abbrev pub behind_blanks : Bool → List ℕ → List ℕ
behind_blanks comment [] = []
behind_blanks true (b ∷ t) = behind_blanks (not (b == 10)) t
behind_blanks false (b ∷ t) =
    if b == 59 then behind_blanks true t else (if is_space b then behind_blanks false t else b ∷ t)

abbrev pub word_of : List ℕ → List ℕ
word_of text = take_while is_word_byte text

-- the word behind an opening bracket, or no bytes without one
abbrev pub word_inside : List ℕ → List ℕ
word_inside [] = []
word_inside (b ∷ t) = if b == 40 then word_of (behind_blanks false t) else []

-- the word of the first form, or no bytes if the text doesn't begin with a form
abbrev pub first_word : List ℕ → List ℕ
first_word text = word_inside (behind_blanks false text)

-- the word begins a form at the top of a model file
abbrev pub IsModelWord : List ℕ → Type 0
IsModelWord w = (w ≡ codes "model") ⊎ ((w ≡ codes "define") ⊎ (w ≡ codes "defaults"))

-- the text begins as a model file does
abbrev pub IsModelFile : List ℕ → Type 0
IsModelFile text = IsModelWord (first_word text)
