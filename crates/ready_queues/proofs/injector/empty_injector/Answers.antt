use Rattle.ready_queues.proofs.Ledgers.{begins}
use Rattle.ready_queues.proofs.injector.empty_injector.Goals as goal

pub new_as-requires : goal.new_as-requires
new_as-requires c = begins
