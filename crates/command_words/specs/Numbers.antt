-- Numbers within a range.
use Rattle.std.specs.Prelude.{◌≡◌, ◌≤◌, ℕ, Option, Some, None}
use Rattle.std.specs.Str.Parse.{IsNumeral, digits_value, without_leading_plus}
use Rattle.clap.specs.Words.{Text}
use Rattle.command_words.specs.declared.ranges.NumberRange.{NumberRange}
use Rattle.command_words.specs.Words.{seconds_range}

-- the text is a number within the range, in decimal digits with or without a leading plus
abbrev pub IsNumberOf : NumberRange → Text → Type 0
IsNumberOf range text =
    IsNumeral 10 (without_leading_plus text) × (range.least ≤ digits_value 10 (without_leading_plus text)) ×
    (digits_value 10 (without_leading_plus text) ≤ range.most)

-- the number that an option gives: that of its text, or the usual one if the option isn't given
abbrev pub SaysNumber : NumberRange → Option Text → ℕ → Type 0
SaysNumber range None n = n ≡ range.usual
SaysNumber range (Some text) n = IsNumberOf range text × (n ≡ digits_value 10 (without_leading_plus text))

-- the seconds that an option gives: those of its text, or `None` if the option isn't given
abbrev pub SaysSeconds : Option Text → Option ℕ → Type 0
SaysSeconds None seconds = seconds ≡ None
SaysSeconds (Some text) None = ⊥
SaysSeconds (Some text) (Some n) = SaysNumber seconds_range (Some text) n
