use Rattle.std.{proofs.Common.{◌≡◌, ◌<◌, Some, length, take}, specs.List.slice_get}
use Rattle.world_search.specs.Lists.{IsMore}
use Rattle.fair_ends.specs.Private.Tables.{LeadsToWorld}
use Rattle.fair_ends.proofs.shortening.walk_alone.Given as goal

-- the entries so far lead here
abbrev pub invariant-loop-fiber : goal.invariant-loop-fiber
invariant-loop-fiber g l = record {
  grows : IsMore (g.W.Worlds.worlds l.initial.worlds) (g.W.Worlds.worlds l.worlds);
  low : l.at < length (g.W.Worlds.worlds l.worlds);
  leads : (first : g.row.W-World.Denot) → slice_get (g.W.Worlds.worlds l.initial.worlds) 0 ≡ Some first →
      LeadsToWorld g.W.Resting.entry (g.W.Worlds.worlds l.worlds) first (take l.fiber-index l.entries) l.at;
}
