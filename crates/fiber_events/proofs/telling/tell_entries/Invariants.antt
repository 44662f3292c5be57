use Rattle.std.proofs.Common.{◌≡◌, Ok, take}
use Rattle.scheduled_core.specs.Fitting.{AllFit, world_of}
use Rattle.fiber_events.specs.Events.{AreEvents, led}
use Rattle.fiber_events.proofs.telling.tell_entries.Given as goal

-- the entries so far led to this world, and these are their events
abbrev pub invariant-loop-made : goal.invariant-loop-made
invariant-loop-made l = record {
  limits : l.registry.limits ≡ l.initial.registry.limits;
  fits : AllFit (world_of l.fibers.items l.registry.state);
  same : l.beside ≡ l.registry;
  goes : led l.initial.registry.limits (world_of l.initial.fibers.items l.initial.registry.state) (take l.made l.schedule) ≡ Ok
      (world_of l.fibers.items l.registry.state);
  events : AreEvents l.initial.registry.limits (world_of l.initial.fibers.items l.initial.registry.state) (take l.made l.schedule) l.events.items;
}
