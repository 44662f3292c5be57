-- Answers to texts that come with a note.
use Rattle.std.specs.Prelude.{◌≡◌, ℕ, List, []}
use Rattle.effect_term.specs.declared.term.Term.{Term}
use Rattle.outcome_trace.specs.Answers.{IsProgramAnswer}
use Rattle.text_io.specs.declared.status.Status.{Status}

-- the answer to a text with this note, with its status: a refusal, which has no note, or the answer to its program
abbrev pub IsNotedAnswer : (List ℕ → List ℕ → Status → Type 0) → (List ℕ → Term → List ℕ → Status → Type 0) →
    (note : List ℕ) → List ℕ → List ℕ → Status → Type 0
IsNotedAnswer Refuses Notes note =
    IsProgramAnswer (λ text answer status. Refuses text answer status × (note ≡ [])) (Notes note)
