use Rattle.std.proofs.Common.{IfOk, inl, inr, subst, sym}
use Rattle.claim_answers.specs.declared.lines.ClaimForm.{ClaimForm}
use Rattle.claim_answers.specs.ClaimsAnswers.{refuses_as}
use Rattle.claim_answers.proofs.answering.refused_answer.Goals as goal

pub returns-in-Report : goal.returns-in-Report
returns-in-Report c = elim c.in-Report.is [
  | inl e ↦
      subst (λ (f : ClaimForm). IfOk c.refused_answer.result (λ a. refuses_as f c.args.text.now a.text.items a.status)) (sym e)
      c.refused_answer.ensures
  | inr e ↦
      subst (λ (f : ClaimForm). IfOk c.refused_answer.result (λ a. refuses_as f c.args.text.now a.text.items a.status)) (sym e)
      c.refused_answer.ensures
]

pub returns-in-Json : goal.returns-in-Json
returns-in-Json c =
    subst (λ (f : ClaimForm). IfOk c.refused_answer-in-Json.result (λ a. refuses_as f c.args.text.now a.text.items a.status)) (sym c.in-Json.is)
    c.refused_answer-in-Json.ensures
