-- The position of a byte in a text.
use Rattle.std.specs.Prelude.{◌==◌, ◌+◌, ℕ, List, [], ◌∷◌, if◌then◌else◌}
use Rattle.reasons.specs.declared.place.Position.{Position}

-- the position behind these bytes, where the first byte is at this line and column
abbrev pub position_behind : ℕ → ℕ → List ℕ → Position
position_behind line column [] = record { line = line; column = column }
position_behind line column (b ∷ bs) =
    if b == 10 then position_behind (line + 1) 1 bs else position_behind line (column + 1) bs

-- the position of a byte, given the bytes before it
abbrev pub position_of : List ℕ → Position
position_of front = position_behind 1 1 front
