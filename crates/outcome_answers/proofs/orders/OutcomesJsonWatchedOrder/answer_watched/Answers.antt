use Rattle.std.proofs.Common.{◌∙◌, true}
use Rattle.serde_json.specs.View.{view}
use Rattle.outcome_answers.proofs.{BarePlain.outcomes_plain, Outcomes.{answered, spellable}}
use Rattle.outcome_answers.proofs.orders.OutcomesJsonWatchedOrder.answer_watched.Goals as goal

pub outcomes_json-requires : goal.outcomes_json-requires
outcomes_json-requires g c =
    let order = c.args.self.now.order in
    spellable c.args.self.now.only_first c.in_ok-found.found c.in_ok-shown.shown order.bounds.entries order.entries c.in_ok-shown.ensures
    c.in_ok-found.ensures.numbers c.in_ok-found.ensures.found.short

pub value_answer-requires : goal.value_answer-requires
value_answer-requires g c = outcomes_plain _ _ _ _ c.in_ok-value.ensures

pub returns : goal.returns
returns g c =
    let order = c.args.self.now.order in
    let value = view c.in_ok-value.value in
    answered true c.args.self.now.only_first c.args.program.now order.limits order.bounds (g.V.Watcher.can_stop c.args.watcher.now) order.wants.items
    _ _ _ _ c.in_ok-found.found c.in_ok-shown.shown c.as_slice-wants.ensures.value c.in_ok-found.ensures.found c.in_ok-shown.ensures
    (value, c.in_ok-value.ensures, c.in_ok-answer.ensures.line) (c.in_ok-answer.ensures.status ∙ c.exploration_status.ensures) c.in_ok-note.ensures
