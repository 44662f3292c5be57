use Rattle.std.proofs.Common.{false}
use Rattle.outcome_answers.proofs.Says.{says_answered, says_spellable}
use Rattle.outcome_answers.proofs.say_orders.SaysOrderWatchedOrder.answer_watched.Goals as goal

pub text_of_exploration-requires : goal.text_of_exploration-requires
text_of_exploration-requires g c =
    let order = c.args.self.now.order in
    says_spellable c.in_ok-found.found order.bounds.entries order.entries c.in_ok-found.ensures.numbers c.in_ok-found.ensures.found.short

pub returns : goal.returns
returns g c =
    let order = c.args.self.now.order in
    says_answered false c.args.program.now order.limits order.bounds (g.V.Watcher.can_stop c.args.watcher.now) order.wants.items
    _ _ _ _ c.in_ok-found.found c.as_slice-wants.ensures.value c.in_ok-found.ensures.found
    c.in_ok-text.ensures c.exploration_status-status.ensures c.in_ok-note.ensures
