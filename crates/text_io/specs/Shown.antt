-- How bytes of a text are shown.
use Rattle.std.specs.Prelude.{◌==◌, ◌+◌, ◌/◌, ◌%◌, ◌||◌, ℕ, nat_lt, List, [], ◌∷◌, ◌++◌, if◌then◌else◌}

-- a hexadecimal digit
abbrev pub digit : ℕ → ℕ
digit n = if nat_lt n 10 then n + 48 else n + 87

-- a printable ASCII character as it is, a space for a tab or a carriage return, otherwise `\x` and two digits
abbrev pub shown_byte : ℕ → List ℕ
shown_byte b =
    if b == 9 || b == 13 then 32 ∷ []
    else (if nat_lt b 32 || nat_lt 126 b then 92 ∷ 120 ∷ digit (b / 16) ∷ digit (b % 16) ∷ [] else b ∷ [])

-- the bytes, each as it is shown
abbrev pub shown : List ℕ → List ℕ
shown [] = []
shown (b ∷ bs) = shown_byte b ++ shown bs
