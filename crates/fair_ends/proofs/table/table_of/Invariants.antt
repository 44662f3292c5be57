use Rattle.std.proofs.Common.{◌≡◌, ◌≤◌, length}
use Rattle.world_search.specs.Lists.{IsMore}
use Rattle.fair_ends.specs.Private.Tables.{AreRows}
use Rattle.fair_ends.proofs.table.table_of.Given as goal

abbrev pub invariant-loop-index : goal.invariant-loop-index
invariant-loop-index g l = record {
  grows : IsMore (g.W.Worlds.worlds l.initial.worlds) (g.W.Worlds.worlds l.worlds);
  many : length l.rows.items ≡ l.index;
  low : l.index ≤ length (g.W.Worlds.worlds l.worlds);
  rows : AreRows g.W.Resting.entry g.W.Resting.free g.W.Worlds.step g.W.Worlds.most_born (g.W.Worlds.worlds l.worlds) l.rows.items;
  watches : g.V.Watcher.can_stop l.watcher ≡ g.V.Watcher.can_stop l.initial.watcher;
}
