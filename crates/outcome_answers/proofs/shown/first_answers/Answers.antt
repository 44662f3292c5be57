use Rattle.std.proofs.Common.{◌∙◌, ap, subst, sym, arith}
use Rattle.every_schedule.specs.{declared.exploration.Answer.Answer, Explored.IsListed}
use Rattle.outcome_answers.proofs.{Firsts.{firsts_all, firsts_more, firsts_same}, shown.first_answers.Goals.then-not-has_end+in_ok-push}
use Rattle.outcome_answers.proofs.shown.first_answers.Goals.{else-not-has_end+in-Ok-1, else-not-has_end+in-Err-1}
use Rattle.outcome_answers.proofs.shown.first_answers.Goals as goal

pub loop-answer-preserved : goal.loop-answer-preserved
loop-answer-preserved c =
    let at = c.loop-answer in
    let one = c.in_ok-one.one in
    let made = c.in_ok-one.ensures in
    let kept = firsts_same c.args.answers.now at.answer-index c.answer-item.result (omega arith) c.answer-item.is at.shown.items
    c.if-not-has_end.shown.items in
    elim c.if-not-has_end.branch [
      | then-not-has_end+in_ok-push w ↦
          firsts_more c.args.answers.now at.answer-index c.answer-item.result (omega arith) c.answer-item.is at.shown.items
          c.if-not-has_end.shown.items one (ap (λ v. v.items) w.shown-is ∙ w.in_ok-push.ensures.items) made
          (λ listed. c.has_end.ensures.other w.if-not-has_end.true (subst (λ (l : _). IsListed l one.end) (sym c.as_slice.ensures.value) listed))
          at.invariant
      | else-not-has_end+in-Ok-1 w ↦
          kept (ap (λ v. v.items) w.shown-is)
          (subst (IsListed at.shown.items) (ap (λ (s : Answer). s.end) made)
          (subst (λ (l : _). IsListed l one.end) c.as_slice.ensures.value (c.has_end.ensures.listed w.if-not-has_end.false))) at.invariant
      | else-not-has_end+in-Err-1 w ↦
          kept (ap (λ v. v.items) w.shown-is)
          (subst (IsListed at.shown.items) (ap (λ (s : Answer). s.end) made)
          (subst (λ (l : _). IsListed l one.end) c.as_slice.ensures.value (c.has_end.ensures.listed w.if-not-has_end.false))) at.invariant
    ]

pub returns : goal.returns
returns c = firsts_all c.args.answers.now c.loop-answer.answer-index c.loop-answer.shown.items (omega arith) c.loop-answer.invariant
