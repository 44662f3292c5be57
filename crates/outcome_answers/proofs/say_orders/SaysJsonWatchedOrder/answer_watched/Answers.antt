use Rattle.std.proofs.Common.{◌∙◌, true}
use Rattle.serde_json.specs.View.{view}
use Rattle.outcome_answers.proofs.{BarePlain.outcomes_plain, Says.{says_answered, says_spellable}}
use Rattle.outcome_answers.proofs.say_orders.SaysJsonWatchedOrder.answer_watched.Goals as goal

pub outcomes_json-requires : goal.outcomes_json-requires
outcomes_json-requires g c =
    let order = c.args.self.now.order in
    says_spellable c.in_ok-found.found order.bounds.entries order.entries c.in_ok-found.ensures.numbers c.in_ok-found.ensures.found.short

pub value_answer-requires : goal.value_answer-requires
value_answer-requires g c = outcomes_plain _ _ _ _ c.in_ok-value.ensures

pub returns : goal.returns
returns g c =
    let order = c.args.self.now.order in
    let value = view c.in_ok-value.value in
    says_answered true c.args.program.now order.limits order.bounds (g.V.Watcher.can_stop c.args.watcher.now) order.wants.items
    _ _ _ _ c.in_ok-found.found c.as_slice-wants.ensures.value c.in_ok-found.ensures.found
    (value, c.in_ok-value.ensures, c.in_ok-answer.ensures.line) (c.in_ok-answer.ensures.status ∙ c.exploration_status.ensures) c.in_ok-note.ensures
