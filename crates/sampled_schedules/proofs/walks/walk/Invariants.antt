use Rattle.std.proofs.Common.{◌≡◌, ◌-◌, length, Ok}
use Rattle.scheduled_core.specs.Fitting.{AllFit, world_of}
use Rattle.sampled_schedules.specs.Private.Walking.{IsWalk}
use Rattle.sampled_schedules.proofs.walks.walk.Given as goal

-- the entries so far led to this world
abbrev pub invariant-loop-watcher : goal.invariant-loop-watcher
invariant-loop-watcher g l = record {
  limits : l.registry.limits ≡ l.initial.registry.limits;
  fits : AllFit (world_of l.fibers.items l.registry.state);
  walked : IsWalk l.initial.registry.limits (world_of l.initial.fibers.items l.initial.registry.state) l.initial.schedule.items
      (Ok (world_of l.fibers.items l.registry.state)) l.schedule.items l.most;
  watches : g.V.Watcher.can_stop l.watcher ≡ g.V.Watcher.can_stop l.initial.watcher;
}

-- the greatest number of entries that can still follow
abbrev pub decreases-loop-watcher : goal.decreases-loop-watcher
decreases-loop-watcher g l = l.most - length l.schedule.items
