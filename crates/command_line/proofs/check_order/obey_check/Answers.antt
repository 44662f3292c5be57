use Rattle.std.proofs.Common.{false, true}
use Rattle.command_line.proofs.EndLemmas.{check_as_ends, order_ends}
use Rattle.command_line.proofs.check_order.obey_check.Goals as goal

pub returns-then-checking-clause-ends : goal.returns-then-checking-clause-ends
returns-then-checking-clause-ends g c = order_ends _ _ c.args.checking.explain _ _ _ (check_as_ends true) c.obey_order.ensures

pub returns-else-checking-clause-ends : goal.returns-else-checking-clause-ends
returns-else-checking-clause-ends g c = order_ends _ _ c.args.checking.explain _ _ _ (check_as_ends false) c.obey_order-else-checking.ensures
