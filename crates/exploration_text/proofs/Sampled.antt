-- Answers to texts whose programs' schedules are sampled.
use Rattle.std.{proofs.Common.{◌≡◌, ◌≤◌, ◌<◌, ℕ, List, Result, Ok, Err, IfOk, length, arith}, specs.List.All}
use Rattle.cell_registry.specs.declared.limits.Limits.{Limits}
use Rattle.effect_term.specs.{declared.term.Term.Term, Programs.IsProgram}
use Rattle.term_parse.specs.{Atoms.atoms_of, Reading.reading}
use Rattle.outcome_trace.specs.{declared.text_order.Answer.Answer, Answers.IsRefusalAnswer}
use Rattle.exploration_text.specs.{ExplorationText.IsSpellable, declared.wants.Want.Want, SampleAnswers.{IsSampleAnswer, IsSampledAnswer, samples, unsampled}}
use Rattle.sampled_schedules.specs.declared.comings.Coming.{Coming}

-- the schedules of a sample can be spelled
pub spellable : (comings : List Coming) (most : ℕ) → most ≤ 1000000 → All (λ c. All (λ f. f < 1000) c.answer.schedule) comings →
    All (λ c. length c.answer.schedule ≤ most) comings → All (λ (c : Coming). IsSpellable c.answer) comings
spellable comings most bound numbers short = λ k d low. record {
  numbers = numbers k d low;
  few = omega (arith, short k d low);
}

pub program_sampled : {E : Type 0} (text : List ℕ) (limits : Limits) (times entries : ℕ) (wants : List Want) (t : Term) (a : Result Answer E) →
    reading text ≡ Ok (atoms_of t) → IsProgram t → IfOk a (λ a. IsSampledAnswer t limits times entries wants a.text.items a.status) →
    IfOk a (λ a. IsSampleAnswer limits times entries wants text a.text.items a.status)
program_sampled text limits times entries wants t (Ok a) e p h = samples text a.text.items a.status t e p h
program_sampled text limits times entries wants t (Err x) e p h = tt

pub refusal_sampled : {E : Type 0} (text : List ℕ) (limits : Limits) (times entries : ℕ) (wants : List Want) (a : Result Answer E) →
    IfOk a (λ a. IsRefusalAnswer text a.text.items a.status) →
    IfOk a (λ a. IsSampleAnswer limits times entries wants text a.text.items a.status)
refusal_sampled text limits times entries wants (Ok a) h = unsampled text a.text.items a.status h
refusal_sampled text limits times entries wants (Err x) h = tt
