use Rattle.ready_queues.proofs.Ledgers.{takes}
use Rattle.ready_queues.proofs.deque.ReadyDeque.take.Goals as goal

pub pop_as-requires-clause-fifo : goal.pop_as-requires-clause-fifo
pop_as-requires-clause-fifo c = λ fifo. takes _ _ 1
