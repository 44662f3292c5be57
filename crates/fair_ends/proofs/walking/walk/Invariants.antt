use Rattle.std.{proofs.Common.{◌≡◌, Some, Ok as GoesWell}, specs.List.slice_get}
use Rattle.world_search.specs.Systems.{run}
use Rattle.fair_ends.specs.Private.Tables.{LandsOn}
use Rattle.fair_ends.proofs.walking.walk.Given as goal

abbrev pub invariant-loop-fiber : goal.invariant-loop-fiber
invariant-loop-fiber g l =
    (w : g.row.W-World.Denot) → slice_get (g.W.Worlds.worlds l.worlds) l.from ≡ Some w →
    LandsOn (g.W.Worlds.worlds l.worlds) l.end (run g.W.Resting.entry (GoesWell w) l.entries.items)
