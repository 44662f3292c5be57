use Rattle.std.proofs.Common.{◌≡◌}
use Rattle.wait_bay.specs.Names.{IsNamed}
use Rattle.steal_pool.proofs.worker.Shared.run_on.Given as goal

abbrev pub invariant-loop : goal.invariant-loop
invariant-loop g l =
    (goal.iterator-loop g).can_next l.iterator' × (goal.iterator-loop g).is_finite l.iterator'
    × (l.seat ≡ l.initial.seat) × IsNamed l.seat.named l.task
