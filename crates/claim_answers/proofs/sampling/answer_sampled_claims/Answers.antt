use Rattle.std.proofs.Common.{◌≡◌, ◌⊎◌, ℕ, Bool, List, Result, Ok, Err, IfOk, subst}
use Rattle.effect_term.specs.declared.term.Term.{Term}
use Rattle.effect_term.specs.Programs.{IsProgram}
use Rattle.exploration_text.specs.declared.noted.NotedAnswer.{NotedAnswer}
use Rattle.exploration_text.specs.declared.sample_texts.SampleOrder.{SampleOrder}
use Rattle.outcome_trace.specs.Answers.{refuses, runs}
use Rattle.term_parse.specs.Atoms.{atoms_of}
use Rattle.term_parse.specs.Reading.{reading}
use Rattle.claim_answers.specs.declared.asked.Asked.{Asked}
use Rattle.claim_answers.specs.declared.lines.ClaimForm.{ClaimForm}
use Rattle.claim_answers.specs.ClaimsAnswers.{IsUnnamedAnswer, refuses_as}
use Rattle.claim_answers.specs.Drawn.{IsSampledClaims, IsSeenAnswer}
use Rattle.claim_answers.proofs.sampling.answer_sampled_claims.Goals as goal

-- an answer to the program that a text spells, with its note
claims_run : {E : Type 0} (json : Bool) (o : SampleOrder) (asked : List Asked) (text : List ℕ) (t : Term) (a : Result NotedAnswer E) →
    reading text ≡ Ok (atoms_of t) → IsProgram t →
    IfOk a (λ n. IsSeenAnswer json o asked text n.note.items t n.answer.text.items n.answer.status
    ⊎ IsUnnamedAnswer n.note.items n.answer.text.items n.answer.status) →
    IfOk a (λ n. IsSampledClaims json o asked n.note.items text n.answer.text.items n.answer.status)
claims_run json o asked text t (Ok n) e p h = runs text n.answer.text.items n.answer.status t e p h
claims_run json o asked text t (Err x) e p h = tt

pub returns-in-Ok : goal.returns-in-Ok
returns-in-Ok c =
    claims_run c.args.json c.args.order c.args.asked.now c.args.text.now c.in-Ok.program c.named_answer.result c.in-Ok.ensures.program
    c.in-Ok.ensures.limits c.named_answer.ensures

pub returns-in_ok-refused_answer-in-Err : goal.returns-in_ok-refused_answer-in-Err
returns-in_ok-refused_answer-in-Err c =
    let a = c.in_ok-refused_answer-in-Err.field-0 in
    refuses c.args.text.now a.text.items a.status
    (subst (λ (f : ClaimForm). refuses_as f c.args.text.now a.text.items a.status) c.form_of.ensures c.in_ok-refused_answer-in-Err.ensures, c.new.ensures.items)
