use Rattle.std.{proofs.Common.{◌≡◌, Ok, take}, specs.List.fold}
use Rattle.scheduled_core.specs.{Fitting.{AllFit, world_of}, Core.entered}
use Rattle.scheduled_core.proofs.scheduled.enter_all.Given as goal

-- the entries so far led to this world
abbrev pub invariant-loop-number : goal.invariant-loop-number
invariant-loop-number l = record {
  limits : l.registry.limits ≡ l.initial.registry.limits;
  fits : AllFit (world_of l.fibers.items l.registry.state);
  goes : fold (entered l.initial.registry.limits) (Ok (world_of l.initial.fibers.items l.initial.registry.state))
      (take l.number-index l.schedule) ≡ Ok (world_of l.fibers.items l.registry.state);
}
