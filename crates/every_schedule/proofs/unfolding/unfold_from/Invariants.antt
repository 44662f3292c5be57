use Rattle.std.proofs.Common.{◌≡◌, [], Ok, take}
use Rattle.scheduled_core.specs.Fitting.{AllFit}
use Rattle.world_search.specs.Systems.{run}
use Rattle.every_schedule.specs.{Persistent.chosen, Private.{Standing.{IsOnward, here}, Trails.IsTrail}}
use Rattle.every_schedule.proofs.unfolding.unfold_from.Given as goal

-- the entries so far lead here, and so does the trail
abbrev pub invariant-loop-fiber : goal.invariant-loop-fiber
invariant-loop-fiber l = record {
  onward : IsOnward l.initial.current l.current;
  fits : AllFit (here l.current).world;
  goes : run (chosen l.at_once) (Ok (here l.initial.current)) (take l.fiber-index l.schedule) ≡ Ok (here l.current);
  trail : IsTrail [] l.trail.items (here l.initial.current) (Ok (here l.current));
}
