use Rattle.std.proofs.Common.{false}
use Rattle.ending_answers.proofs.{Answered.answered, Endings.short_more}
use Rattle.ending_answers.proofs.orders.EndsOrderWatchedOrder.answer_watched.Goals as goal

pub text_of_decided-requires-clause-short : goal.text_of_decided-requires-clause-short
text_of_decided-requires-clause-short g c =
    let order = c.args.self.now.order in
    short_more order.bounds.entries 1000000 order.entries c.in_ok-decided.decided.ending c.in_ok-decided.ensures.short

pub returns : goal.returns
returns g c =
    let order = c.args.self.now.order in
    let told = c.in_ok-decided.ensures in
    answered false c.args.program.now order.limits order.bounds (g.V.Watcher.can_stop c.args.watcher.now) order.wants.items _ _ _ _ c.in_ok-decided.decided
    c.as_slice-wants.ensures.value told.explored told.ending c.in_ok-text.ensures c.decided_status-status.ensures c.in_ok-note.ensures
