-- What a file has in it, by the bytes with which each report begins.
use Rattle.std.specs.Prelude.{ℕ, List, [], ◌∷◌, nat_eq, if◌then◌else◌}
use Rattle.std.specs.List.{starts_with}
use Rattle.report_files.specs.declared.content.Content.{Content}
use Rattle.report_files.specs.declared.content.Content.TheVariants.{Nothing, Report, Part, Other}

-- what begins with `head` is a report; what `head` begins with is a part of one
abbrev pub content_of : List ℕ → List ℕ → Content
content_of [] head = Nothing
content_of (b ∷ bytes) head =
    if starts_with nat_eq (b ∷ bytes) head then Report
    else (if starts_with nat_eq head (b ∷ bytes) then Part else Other)
