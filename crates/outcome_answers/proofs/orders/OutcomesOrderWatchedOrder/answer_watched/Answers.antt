use Rattle.std.proofs.Common.{false}
use Rattle.outcome_answers.proofs.Outcomes.{answered, spellable}
use Rattle.outcome_answers.proofs.orders.OutcomesOrderWatchedOrder.answer_watched.Goals as goal

pub text_of_exploration-requires : goal.text_of_exploration-requires
text_of_exploration-requires g c =
    let order = c.args.self.now.order in
    spellable c.args.self.now.only_first c.in_ok-found.found c.in_ok-shown.shown order.bounds.entries order.entries c.in_ok-shown.ensures
    c.in_ok-found.ensures.numbers c.in_ok-found.ensures.found.short

pub returns : goal.returns
returns g c =
    let order = c.args.self.now.order in
    answered false c.args.self.now.only_first c.args.program.now order.limits order.bounds (g.V.Watcher.can_stop c.args.watcher.now) order.wants.items
    _ _ _ _ c.in_ok-found.found c.in_ok-shown.shown c.as_slice-wants.ensures.value c.in_ok-found.ensures.found c.in_ok-shown.ensures
    c.in_ok-text.ensures c.exploration_status-status.ensures c.in_ok-note.ensures
