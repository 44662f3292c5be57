-- An input with the text of a schedule in its first line, and the text of a program after that line.
use Rattle.std.specs.Prelude.{◌≡◌, ◌≢◌, ◌<◌, ◌⊎◌, ℕ, true, List, [], ◌∷◌, ◌++◌, length}
use Rattle.std.specs.Io.KnownBytes.{Consumes, IsAtEnd}
use Rattle.std.specs.List.{All}
use Rattle.text_io.specs.Devices.{Reader}

-- these bytes were read: all of the input, or at least 6,065,537 bytes
pub record IsInput (before after : Reader) (bytes : List ℕ) : Type 0 where
  pub taken : Consumes before.remaining after.remaining bytes
  pub ended : length bytes < 6065537 → IsAtEnd after.remaining × (after.ended ≡ true)

-- the bytes before the first line feed, and the bytes after it; without a line feed: all bytes, and none
pub record IsFirstLine (bytes line text : List ℕ) : Type 0 where
  pub unbroken : All (λ b. b ≢ 10) line
  pub parts : (bytes ≡ line ++ 10 ∷ text) ⊎ ((bytes ≡ line) × (text ≡ []))
