use Rattle.ready_queues.proofs.Ledgers.{takes, finds}
use Rattle.ready_queues.proofs.injector.InjectorEnd.take.Goals as goal

pub steal_as-requires-clause-rule : goal.steal_as-requires-clause-rule
steal_as-requires-clause-rule g c = (takes _ _ 1, finds _ _)
