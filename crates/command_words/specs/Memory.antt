-- Numbers of bytes, as `4G`.
use Rattle.std.specs.Prelude.{◌≡◌, ◌==◌, ◌*◌, ◌-◌, ℕ, if◌then◌else◌, Option, Some, None, length, take}
use Rattle.std.specs.List.{last_or}
use Rattle.std.specs.Str.Parse.{digits_value, without_leading_plus}
use Rattle.clap.specs.Words.{Text}
use Rattle.command_words.specs.Numbers.{IsNumberOf}
use Rattle.command_words.specs.Words.{memory_range}

-- the bytes of the unit that is the last letter of a text: 1024, 1024^2 or 1024^3 for k, M or G, and 1 for any other
-- letter
abbrev pub letter_unit : Option ℕ → ℕ
letter_unit None = 1
letter_unit (Some c) =
    if c == 107 then 1024 else (if c == 77 then 1048576 else (if c == 71 then 1073741824 else 1))

abbrev pub unit_of : Text → ℕ
unit_of text = letter_unit (last_or None text)

-- the text without the letter of its unit
abbrev pub number_in : Text → Text
number_in text = if unit_of text == 1 then text else take (length text - 1) text

-- the bytes that an option gives: the number of its text times its unit, or the usual number if the option isn't given
abbrev pub SaysMemory : Option Text → ℕ → Type 0
SaysMemory None n = n ≡ memory_range.usual
SaysMemory (Some text) n = IsNumberOf memory_range (number_in text) ×
    (n ≡ digits_value 10 (without_leading_plus (number_in text)) * unit_of text)
