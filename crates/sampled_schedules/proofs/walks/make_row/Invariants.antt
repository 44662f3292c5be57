use Rattle.std.proofs.Common.{◌≡◌, ◌+◌, ◌≤◌, length, Ok}
use Rattle.scheduled_core.specs.Fitting.{AllFit, world_of}
use Rattle.sampled_schedules.specs.Private.Walking.{IsWalk}
use Rattle.sampled_schedules.proofs.walks.make_row.Given as goal

-- the entries so far led to this world
abbrev pub invariant-loop : goal.invariant-loop
invariant-loop l = record {
  limits : l.registry.limits ≡ l.fn.registry.limits;
  fits : AllFit (world_of l.fibers.items l.registry.state);
  grows : length l.fn.schedule.items + 1 ≤ length l.schedule.items;
  walked : IsWalk l.fn.registry.limits (world_of l.fn.fibers.items l.fn.registry.state) l.fn.schedule.items
      (Ok (world_of l.fibers.items l.registry.state)) l.schedule.items l.counter;
}
