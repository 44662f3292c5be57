-- The text of a decision on fair schedules, and its exit status.
use Rattle.std.specs.Prelude.{◌≡◌, ℕ, List, ◌∷◌, ◌++◌, [], codes}
use Rattle.fair_ends.specs.declared.ending.Ending.{Ending}
use Rattle.fair_ends.specs.declared.ending.Ending.TheVariants as decided
use Rattle.text_io.specs.declared.status.Status.{Status}
use Rattle.text_io.specs.declared.status.Status.TheVariants as ends
use Rattle.text_io.specs.Schedule.{SpellsEntries}
use Rattle.exploration_text.specs.declared.wants.Want.{Want}
use Rattle.exploration_text.specs.ExplorationText.{IsExplorationText, exploration_status}
use Rattle.ending_answers.specs.declared.decided.Decided.{Decided}

-- a fair schedule that goes on for ever: its first entries, and those that repeat
abbrev pub repeats_line : List ℕ → List ℕ → List ℕ
repeats_line stem cycle = 10 ∷ codes "a fair schedule goes on for ever: first " ++ (34 ∷ (stem ++ (34 ∷
    (codes ", then again and again " ++ (34 ∷ (cycle ++ (34 ∷ 10 ∷ [])))))))

-- a blank line and the decision
abbrev pub IsEndingText : Ending → List ℕ → Type 0
IsEndingText decided.Ends text = text ≡ 10 ∷ codes "ends under every fair schedule" ++ 10 ∷ []
IsEndingText (decided.Repeats c) text = (stem : List ℕ) × (cycle : List ℕ) × SpellsEntries stem c.stem.items ×
    SpellsEntries cycle c.cycle.items × (text ≡ repeats_line stem cycle)
IsEndingText decided.Undecided text = text ≡ 10 ∷ codes "undecided whether every fair schedule ends" ++ 10 ∷ []

-- the text of the exploration, followed by that of the decision
pub record IsDecidedText (wants : List Want) (it : Decided) (text : List ℕ) : Type 0 where
  pub explored : List ℕ
  pub ending : List ℕ
  pub text_is : text ≡ explored ++ ending
  pub explored_is : IsExplorationText wants it.exploration explored
  pub ending_is : IsEndingText it.ending ending

-- a success is unended if the decision is undecided
abbrev pub undecided_status : Status → Status
undecided_status ends.Succeeded = ends.Unended
undecided_status s = s

-- the status of the exploration if every fair schedule ends, that of an error if one doesn't end
abbrev pub ending_status : Ending → Status → Status
ending_status decided.Ends s = s
ending_status (decided.Repeats c) s = ends.Errored
ending_status decided.Undecided s = undecided_status s

abbrev pub decided_status : List Want → Decided → Status
decided_status wants it = ending_status it.ending (exploration_status wants it.exploration)
