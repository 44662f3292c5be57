use Rattle.std.proofs.Common.{IfOk, subst, sym}
use Rattle.claim_answers.specs.declared.lines.ClaimForm.{ClaimForm}
use Rattle.claim_answers.specs.ClaimsAnswers.{explored_as}
use Rattle.claim_answers.proofs.answering.explored_answer.Goals as goal

pub returns-in-Report : goal.returns-in-Report
returns-in-Report c =
    subst (λ (f : ClaimForm). IfOk c.answer_watched.result (λ n. explored_as f c.args.order n.note.items c.args.program.now n.answer.text.items n.answer.status))
    (sym c.in-Report.is) c.answer_watched.ensures

pub returns-in-Timeline : goal.returns-in-Timeline
returns-in-Timeline c =
    subst
    (λ (f : ClaimForm). IfOk c.answer_watched-in-Timeline.result (λ n. explored_as f c.args.order n.note.items c.args.program.now n.answer.text.items n.answer.status))
    (sym c.in-Timeline.is) c.answer_watched-in-Timeline.ensures

pub returns-in-Json : goal.returns-in-Json
returns-in-Json c =
    subst
    (λ (f : ClaimForm). IfOk c.answer_watched-in-Json.result (λ n. explored_as f c.args.order n.note.items c.args.program.now n.answer.text.items n.answer.status))
    (sym c.in-Json.is) c.answer_watched-in-Json.ensures
