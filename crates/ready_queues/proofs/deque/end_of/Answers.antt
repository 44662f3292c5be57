use Rattle.ready_queues.proofs.Ledgers.{admits}
use Rattle.ready_queues.proofs.deque.end_of.Goals as goal

pub pass-pass-requires : goal.pass-pass-requires
pass-pass-requires c = admits
