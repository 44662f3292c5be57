use Rattle.std.proofs.Common.{List, subst, sym, ℕ}
use Rattle.outcome_trace.specs.ReplayAnswers.{IsReplayAnswer}
use Rattle.command_line.proofs.ReasonLemmas.{none_told, reasons_told}
use Rattle.command_line.proofs.run_reasons.tell_kept.Goals as goal

pub returns-in-Some : goal.returns-in-Some
returns-in-Some g c =
    let same = subst (λ (es : List ℕ). IsReplayAnswer es c.args.limits c.args.text.now c.args.answer.now.text.items c.args.answer.now.status)
    (sym c.as_slice-schedule.ensures.value) c.rested-longer.ensures in
    reasons_told _ _ _ _ _ _ _ same c.tell_reasons.ensures

pub returns-in-None : goal.returns-in-None
returns-in-None g c = none_told _ _ _ _ _ _ c.tell_none.ensures.told
