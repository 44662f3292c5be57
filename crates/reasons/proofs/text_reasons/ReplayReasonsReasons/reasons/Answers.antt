use Rattle.std.proofs.lemmas.Result.{IfOk-weaker}
use Rattle.reasons.specs.Reasons.{replayed, unreplayed}
use Rattle.reasons.proofs.text_reasons.ReplayReasonsReasons.reasons.Goals as goal

pub returns-in-Ok : goal.returns-in-Ok
returns-in-Ok c =
    IfOk-weaker c.unended_reasons.result _ _
    (λ told h. replayed c.args.text.now told.items c.in-Ok.program c.in-Ok.ensures.program c.in-Ok.ensures.limits h) c.unended_reasons.ensures

pub returns-in-Err : goal.returns-in-Err
returns-in-Err c =
    IfOk-weaker c.refused_reasons.result _ _ (λ told h. unreplayed c.args.text.now told.items h) c.refused_reasons.ensures
