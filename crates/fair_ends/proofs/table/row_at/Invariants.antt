use Rattle.std.{proofs.Common.{◌≡◌, ◌<◌, Some, length}, specs.List.slice_get}
use Rattle.world_search.specs.Lists.{IsMore}
use Rattle.fair_ends.specs.Private.Tables.{AreEdges}
use Rattle.fair_ends.proofs.table.row_at.Given as goal

abbrev pub invariant-loop-fiber : goal.invariant-loop-fiber
invariant-loop-fiber g l = record {
  grows : IsMore (g.W.Worlds.worlds l.initial.worlds) (g.W.Worlds.worlds l.worlds);
  low : l.index < length (g.W.Worlds.worlds l.worlds);
  edges : (w : g.row.W-World.Denot) → slice_get (g.W.Worlds.worlds l.worlds) l.index ≡ Some w →
      AreEdges g.W.Resting.entry g.W.Resting.free g.W.Worlds.step g.W.Worlds.most_born (g.W.Worlds.worlds l.worlds) l.fiber w l.edges.items;
}
