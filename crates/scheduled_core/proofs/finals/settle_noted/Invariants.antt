use Rattle.std.proofs.Common.{◌≡◌, length}
use Rattle.scheduled_core.specs.{Fitting.{AllFit, world_of}, Spending.SpendsMany, Private.Settling.moves_left}
use Rattle.scheduled_core.proofs.finals.settle_noted.Given as goal

-- the entries so far led to this world
abbrev pub invariant-loop-number : goal.invariant-loop-number
invariant-loop-number g l = record {
  limits : l.registry.limits ≡ l.initial.registry.limits;
  fits : AllFit (world_of l.fibers.items l.registry.state);
  still : l.finished ≡ 0 → (l.fibers.items ≡ l.initial.fibers.items) × (l.registry ≡ l.initial.registry);
  each : length l.rests.items ≡ length l.fibers.items;
  goes : SpendsMany l.initial.registry.limits (world_of l.initial.fibers.items l.initial.registry.state) l.initial.rests.items l.finished
      (world_of l.fibers.items l.registry.state) l.rests.items;
}

abbrev pub decreases-loop-number : goal.decreases-loop-number
decreases-loop-number g l = moves_left l.registry.limits.fibers l.rests.items
