use Rattle.std.proofs.Common.{◌≡◌, ◌⊎◌, ℕ, List, Result, Ok, Err, IfOk}
use Rattle.effect_term.specs.declared.term.Term.{Term}
use Rattle.effect_term.specs.Programs.{IsProgram}
use Rattle.exploration_text.specs.declared.explore_texts.ExploreOrder.{ExploreOrder}
use Rattle.exploration_text.specs.declared.noted.NotedAnswer.{NotedAnswer}
use Rattle.outcome_trace.specs.Answers.{refuses, runs}
use Rattle.term_parse.specs.Atoms.{atoms_of}
use Rattle.term_parse.specs.Reading.{reading}
use Rattle.claim_answers.specs.declared.asked.Asked.{Asked}
use Rattle.claim_answers.specs.declared.lines.ClaimForm.{ClaimForm}
use Rattle.claim_answers.specs.ClaimsAnswers.{IsClaimsAnswer, IsJudgedAnswer, IsUnnamedAnswer}
use Rattle.claim_answers.proofs.answering.answer_claims.Goals as goal

-- an answer to the program that a text spells, with its note
claims_run : {E : Type 0} (form : ClaimForm) (o : ExploreOrder) (asked : List Asked) (text : List ℕ) (t : Term) (a : Result NotedAnswer E) →
    reading text ≡ Ok (atoms_of t) → IsProgram t →
    IfOk a (λ n. IsJudgedAnswer form o asked text n.note.items t n.answer.text.items n.answer.status
    ⊎ IsUnnamedAnswer n.note.items n.answer.text.items n.answer.status) →
    IfOk a (λ n. IsClaimsAnswer form o asked n.note.items text n.answer.text.items n.answer.status)
claims_run form o asked text t (Ok n) e p h = runs text n.answer.text.items n.answer.status t e p h
claims_run form o asked text t (Err x) e p h = tt

pub returns-in-Ok : goal.returns-in-Ok
returns-in-Ok c =
    claims_run c.args.form c.args.order c.args.asked.now c.args.text.now c.in-Ok.program c.judged_answer.result c.in-Ok.ensures.program
    c.in-Ok.ensures.limits c.judged_answer.ensures

pub returns-in_ok-refused_answer-in-Err : goal.returns-in_ok-refused_answer-in-Err
returns-in_ok-refused_answer-in-Err c =
    refuses c.args.text.now c.in_ok-refused_answer-in-Err.field-0.text.items c.in_ok-refused_answer-in-Err.field-0.status
    (c.in_ok-refused_answer-in-Err.ensures, c.new.ensures.items)
