-- Answers to texts, with their notes.
use Rattle.std.proofs.Common.{◌≡◌, ℕ, List, Result, Ok, Err, IfOk}
use Rattle.effect_term.specs.{declared.term.Term.Term, Programs.IsProgram}
use Rattle.exploration_text.specs.{declared.noted.NotedAnswer.NotedAnswer, Noting.IsNotedAnswer}
use Rattle.outcome_trace.specs.Answers.{runs}
use Rattle.term_parse.specs.{Atoms.atoms_of, Reading.reading}
use Rattle.text_io.specs.declared.status.Status.{Status}

-- an answer to the program that a text spells, with its note
pub noted_runs : {E : Type 0} (Refuses : List ℕ → List ℕ → Status → Type 0) (Notes : List ℕ → Term → List ℕ → Status → Type 0) (text : List ℕ) (t : Term)
    (a : Result NotedAnswer E) → reading text ≡ Ok (atoms_of t) → IsProgram t →
    IfOk a (λ n. Notes n.note.items t n.answer.text.items n.answer.status) →
    IfOk a (λ n. IsNotedAnswer Refuses Notes n.note.items text n.answer.text.items n.answer.status)
noted_runs Refuses Notes text t (Ok n) e p h = runs text n.answer.text.items n.answer.status t e p h
noted_runs Refuses Notes text t (Err x) e p h = tt
