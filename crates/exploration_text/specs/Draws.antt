-- An answer behind which a finding of random schedules is written.
use Rattle.std.specs.Prelude.{◌≡◌, ◌⊎◌, ℕ, true, List, ◌∷◌, ◌++◌}
use Rattle.derived_ops.specs.Expansion.{code_of}
use Rattle.derived_ops.specs.Reading.{source_of}
use Rattle.effect_term.specs.declared.term.Term.{Term}
use Rattle.text_io.specs.declared.status.Status.{Status}
use Rattle.text_io.specs.declared.status.Status.TheVariants as ends
use Rattle.exploration_text.specs.declared.explore_texts.ExploreOrder.{ExploreOrder}
use Rattle.exploration_text.specs.declared.findings.Finding.{Finding}
use Rattle.exploration_text.specs.Findings.{IsFinding, IsFindingText}

-- a blank line, and the text of a finding
abbrev pub IsWordsBehind : Finding → List ℕ → Type 0
IsWordsBehind f text = (told : List ℕ) × (text ≡ 10 ∷ told) × IsFindingText f told

-- the answer of a search that a bound stopped, and behind it a finding that was drawn at random; the status is that of
-- something unwanted
pub record IsDrawnBehind (Tells : Finding → List ℕ → Type 0) (order : ExploreOrder) (t : Term)
    (Answers : List ℕ → Status → Type 0) (answer : List ℕ) (status : Status) : Type 0
  where
    pub front : List ℕ
    pub stopped : Answers front ends.Unended
    pub finding : Finding
    pub found : IsFinding (code_of (source_of t)) order.limits order.wants.items finding
    pub drawn : finding.drawn ≡ true
    pub told : List ℕ
    pub told_is : Tells finding told
    pub text_is : answer ≡ front ++ told
    pub status_is : status ≡ ends.Errored

-- such an answer, or the answer of the search alone
abbrev pub IsWithDraws : (Finding → List ℕ → Type 0) → ExploreOrder → Term → (List ℕ → Status → Type 0) → List ℕ →
    Status → Type 0
IsWithDraws Tells order t Answers answer status =
    Answers answer status ⊎ IsDrawnBehind Tells order t Answers answer status
