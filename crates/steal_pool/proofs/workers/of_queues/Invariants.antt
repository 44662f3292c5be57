use Rattle.wait_bay.specs.Bays.{IsSeatOf}
use Rattle.steal_pool.proofs.workers.of_queues.Given as goal

abbrev pub invariant-loop-own : goal.invariant-loop-own
invariant-loop-own l = IsSeatOf l.bay l.seat
