use Rattle.std.proofs.Common.{◌∙◌, true}
use Rattle.serde_json.specs.View.{view}
use Rattle.ending_answers.proofs.{Answered.{answered, decided_plain}, Endings.short_more}
use Rattle.ending_answers.proofs.orders.EndsJsonWatchedOrder.answer_watched.Goals as goal

pub decided_json-requires-clause-short : goal.decided_json-requires-clause-short
decided_json-requires-clause-short g c =
    let order = c.args.self.now.order in
    short_more order.bounds.entries 1000000 order.entries c.in_ok-decided.decided.ending c.in_ok-decided.ensures.short

pub value_answer-requires : goal.value_answer-requires
value_answer-requires g c = decided_plain _ _ _ c.in_ok-value.ensures

pub returns : goal.returns
returns g c =
    let order = c.args.self.now.order in
    let told = c.in_ok-decided.ensures in
    let value = view c.in_ok-value.value in
    answered true c.args.program.now order.limits order.bounds (g.V.Watcher.can_stop c.args.watcher.now) order.wants.items _ _ _ _ c.in_ok-decided.decided
    c.as_slice-wants.ensures.value told.explored told.ending (value, c.in_ok-value.ensures, c.in_ok-answer.ensures.line)
    (c.in_ok-answer.ensures.status ∙ c.decided_status.ensures) c.in_ok-note.ensures
