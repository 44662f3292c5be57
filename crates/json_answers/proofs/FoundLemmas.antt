-- Answers in JSON to texts whose programs are explored, or whose schedules are sampled.
use Rattle.std.proofs.Common.{◌≡◌, ℕ, List, Result, Ok, Err, IfOk}
use Rattle.cell_registry.specs.declared.limits.Limits.{Limits}
use Rattle.effect_term.specs.{declared.term.Term.Term, Programs.IsProgram}
use Rattle.term_parse.specs.{Atoms.atoms_of, Reading.reading}
use Rattle.outcome_trace.specs.declared.text_order.Answer.{Answer}
use Rattle.exploration_text.specs.declared.wants.Want.{Want}
use Rattle.json_answers.specs.{Answers.IsJsonRefusal, FoundAnswers.{IsJsonSample, IsJsonSampled, samples}}
use Rattle.json_answers.specs.FoundAnswers.{unsampled}

pub program_sampled : {E : Type 0} (text : List ℕ) (limits : Limits) (seed times entries : ℕ) (wants : List Want) (t : Term) (a : Result Answer E) →
    reading text ≡ Ok (atoms_of t) → IsProgram t → IfOk a (λ a. IsJsonSampled t limits seed times entries wants a.text.items a.status) →
    IfOk a (λ a. IsJsonSample limits seed times entries wants text a.text.items a.status)
program_sampled text limits seed times entries wants t (Ok a) e p h = samples text a.text.items a.status t e p h
program_sampled text limits seed times entries wants t (Err x) e p h = tt

pub refusal_sampled : {E : Type 0} (text : List ℕ) (limits : Limits) (seed times entries : ℕ) (wants : List Want) (a : Result Answer E) →
    IfOk a (λ a. IsJsonRefusal text a.text.items a.status) →
    IfOk a (λ a. IsJsonSample limits seed times entries wants text a.text.items a.status)
refusal_sampled text limits seed times entries wants (Ok a) h = unsampled text a.text.items a.status h
refusal_sampled text limits seed times entries wants (Err x) h = tt
