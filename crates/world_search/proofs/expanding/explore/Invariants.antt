use Rattle.std.{proofs.Common.{◌≡◌, ℕ, ◌+◌, ◌*◌, ◌<◌, ◌≤◌, ◌-◌, true, false, length}, specs.Prelude.max}
use Rattle.world_search.specs.Private.{Shapes.shape, Graphs.{Fits, Grows, IsDone, IsSnug, IsStopped}}
use Rattle.world_search.proofs.expanding.explore.Given as goal

abbrev pub invariant-loop-index : goal.invariant-loop-index
invariant-loop-index g l = record {
  grows : Grows (g.W.Worlds.worlds l.initial.worlds) (g.W.Worlds.worlds l.worlds) (g.W.Worlds.faults l.initial.worlds) (g.W.Worlds.faults l.worlds)
      (shape l.initial.graph) (shape l.graph);
  fits : Fits g.W.Worlds.step g.W.Worlds.report g.W.Worlds.most_born l.limits.entries (g.W.Worlds.worlds l.worlds) (g.W.Worlds.faults l.worlds) (shape l.graph);
  done : l.whole ≡ true → (i : ℕ) → i < l.index →
      IsDone g.W.Worlds.step g.W.Worlds.report g.W.Worlds.most_born l.limits.entries (g.W.Worlds.worlds l.worlds) (g.W.Worlds.faults l.worlds)
      (shape l.graph) i;
  low : l.index ≤ length l.graph.nodes.items;
  room : length (g.W.Worlds.worlds l.worlds) ≤ max l.limits.worlds (length (g.W.Worlds.worlds l.initial.worlds));
  snug : IsSnug (length (g.W.Worlds.worlds l.initial.worlds)) (shape l.initial.graph) →
      IsSnug (length (g.W.Worlds.worlds l.worlds)) (shape l.graph);
  stopped : l.whole ≡ false → IsSnug (length (g.W.Worlds.worlds l.initial.worlds)) (shape l.initial.graph) →
      IsStopped l.limits.worlds l.limits.entries (length (g.W.Worlds.worlds l.worlds));
  edges : length l.graph.edges.items ≤ length l.initial.graph.edges.items + g.W.Worlds.most_born * l.index;
  watches : g.V.Watcher.can_stop l.watcher ≡ g.V.Watcher.can_stop l.initial.watcher;
}

abbrev pub decreases-loop-index : goal.decreases-loop-index
decreases-loop-index g l = l.limits.worlds - l.index
