use Rattle.std.proofs.{Common.{sym, subst}, lemmas.Result.IfOk-weaker}
use Rattle.reasons.specs.Refusals.{IsTextReasons, program}
use Rattle.reasons.proofs.text_reasons.TextReasonsReasons.reasons.Goals as goal

pub returns-in-Ok : goal.returns-in-Ok
returns-in-Ok c =
    IfOk-weaker c.program_reasons.result _ _
    (λ told h. subst (λ xs. IsTextReasons c.args.text.now xs) (sym h) (program c.args.text.now c.in-Ok.program c.in-Ok.ensures.program c.in-Ok.ensures.limits))
    c.program_reasons.ensures
