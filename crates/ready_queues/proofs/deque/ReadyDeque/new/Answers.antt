use Rattle.ready_queues.proofs.Ledgers.{begins}
use Rattle.ready_queues.proofs.deque.ReadyDeque.new.Goals as goal

pub fifo_as-requires : goal.fifo_as-requires
fifo_as-requires c = begins
