use Rattle.command_line.proofs.EndLemmas.{order_ends, show_ends}
use Rattle.command_line.proofs.check_order.obey_show.Goals as goal

pub returns-clause-ends : goal.returns-clause-ends
returns-clause-ends g c = order_ends _ _ c.args.showing.explain _ _ _ (λ text answer status h. show_ends h) c.obey_order.ensures
