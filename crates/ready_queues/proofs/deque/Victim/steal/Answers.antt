use Rattle.ready_queues.proofs.Ledgers.{takes}
use Rattle.ready_queues.proofs.deque.Victim.steal.Goals as goal

pub steal_as-requires-clause-takes : goal.steal_as-requires-clause-takes
steal_as-requires-clause-takes c = takes _ _ 1
