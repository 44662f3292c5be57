use Rattle.std.{proofs.Common.{◌≡◌, ◌<◌, Some, length, take}, specs.List.slice_get}
use Rattle.world_search.specs.Lists.{IsMore}
use Rattle.fair_ends.specs.Private.Tables.{LeadsToWorld}
use Rattle.fair_ends.proofs.shortening.first_return.Given as goal

-- the entries so far lead here
abbrev pub invariant-loop-index : goal.invariant-loop-index
invariant-loop-index g l = record {
  grows : IsMore (g.W.Worlds.worlds l.initial.worlds) (g.W.Worlds.worlds l.worlds);
  low : l.at < length (g.W.Worlds.worlds l.worlds);
  leads : (w : g.row.W-World.Denot) → slice_get (g.W.Worlds.worlds l.initial.worlds) l.begins ≡ Some w →
      LeadsToWorld g.W.Resting.entry (g.W.Worlds.worlds l.worlds) w (take l.index l.cycle) l.at;
}
