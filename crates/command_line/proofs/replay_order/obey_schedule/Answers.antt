use Rattle.command_line.proofs.EndLemmas.{form_ends, order_ends}
use Rattle.command_line.proofs.replay_order.obey_schedule.Goals as goal

pub returns-in-Ok-clause-unread : goal.returns-in-Ok-clause-unread
returns-in-Ok-clause-unread g c = λ u. absurd (order_ends _ _ c.args.explain _ _ _ (form_ends c.args.form _ _) c.obey_entries.ensures u)
