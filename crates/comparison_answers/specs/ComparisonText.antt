-- The text of a comparison, and its exit status.
use Rattle.std.specs.Prelude.{◌≡◌, ℕ, false, List, [], ◌∷◌, ◌++◌, codes, Some}
use Rattle.std.specs.List.{slice_get}
use Rattle.every_schedule.specs.declared.exploration.Answer.{Answer}
use Rattle.exploration_text.specs.ExplorationText.{IsAnswerText, first_line}
use Rattle.text_io.specs.declared.status.Status.{Status}
use Rattle.text_io.specs.declared.status.Status.TheVariants as ends
use Rattle.compared_ends.specs.declared.comparison.Comparison.{Comparison}
use Rattle.compared_ends.specs.declared.comparison.Extra.{Extra}
use Rattle.compared_ends.specs.declared.comparison.Extra.TheVariants as extra

-- the verdict, by the ends that only the first program has, and the ends that only the second program has
abbrev pub verdict : Extra → Extra → List ℕ
verdict extra.Nothing extra.Nothing = codes "the same ends"
verdict (extra.Answer i) extra.Nothing = codes "the first can do more"
verdict extra.Nothing (extra.Answer j) = codes "the second can do more"
verdict (extra.Answer i) (extra.Answer j) = codes "each can do what the other can't"
verdict (extra.Answer i) extra.Undecided = codes "the first can do what the second can't"
verdict extra.Undecided (extra.Answer j) = codes "the second can do what the first can't"
verdict extra.Nothing extra.Undecided = codes "undecided whether the second can do more"
verdict extra.Undecided extra.Nothing = codes "undecided whether the first can do more"
verdict extra.Undecided extra.Undecided = codes "undecided"

-- the heading and an answer that shows an end of only one program; empty if there is none
abbrev pub IsExtraText : List ℕ → List Answer → Extra → List ℕ → Type 0
IsExtraText heading answers (extra.Answer i) text = (a : Answer) × (part : List ℕ) × (slice_get answers i ≡ Some a) ×
    IsAnswerText false a part × (text ≡ heading ++ part)
IsExtraText heading answers extra.Nothing text = text ≡ []
IsExtraText heading answers extra.Undecided text = text ≡ []

-- the verdict, and how far both explorations came
abbrev pub heads : Comparison → List ℕ
heads it = verdict it.first_extra it.second_extra ++
    (10 ∷ codes "first: " ++ (first_line it.first ++ (codes "second: " ++ first_line it.second)))

-- these lines, and an answer for each program that has an end of its own
pub record IsComparisonText (it : Comparison) (text : List ℕ) : Type 0 where
  pub first : List ℕ
  pub second : List ℕ
  pub text_is : text ≡ heads it ++ (first ++ second)
  pub first_is : IsExtraText (10 ∷ codes "only the first:") it.first.answers it.first_extra first
  pub second_is : IsExtraText (10 ∷ codes "only the second:") it.second.answers it.second_extra second

-- the status of success if the programs have the same ends, that of an error if one has an end that the other lacks,
-- and that of an unended run if this is undecided
abbrev pub extras_status : Extra → Extra → Status
extras_status (extra.Answer i) second = ends.Errored
extras_status extra.Nothing (extra.Answer j) = ends.Errored
extras_status extra.Undecided (extra.Answer j) = ends.Errored
extras_status extra.Nothing extra.Nothing = ends.Succeeded
extras_status extra.Nothing extra.Undecided = ends.Unended
extras_status extra.Undecided extra.Nothing = ends.Unended
extras_status extra.Undecided extra.Undecided = ends.Unended

abbrev pub comparison_status : Comparison → Status
comparison_status it = extras_status it.first_extra it.second_extra
