use Rattle.std.proofs.Common.{sym, ◌∙◌}
use Rattle.cell_registry.proofs.Replies.{ended_reply, already_reply, asked_reply, control-phase, control-cancel}
use Rattle.cell_registry.proofs.words.cancel_answer.Goals as goal

pub returns-then-control-eq-ENDED : goal.returns-then-control-eq-ENDED
returns-then-control-eq-ENDED c d range e =
    let is = c.unpack-control.ensures.inverse _ range e in
    ended_reply d.stage d.request (control-phase _ d is ∙ c.if-control-eq-ENDED.true)

pub returns-then-control : goal.returns-then-control
returns-then-control c d range e =
    let is = c.unpack-control.ensures.inverse _ range e in
    already_reply d.stage d.request (λ p. c.if-control-eq-ENDED.false (sym (control-phase _ d is) ∙ p)) (control-cancel _ d is ∙ c.if-control.true)

pub returns-else-control : goal.returns-else-control
returns-else-control c d range e =
    let is = c.unpack-control.ensures.inverse _ range e in
    asked_reply d.stage d.request (λ p. c.if-control-eq-ENDED.false (sym (control-phase _ d is) ∙ p)) (control-cancel _ d is ∙ c.if-control.false)
