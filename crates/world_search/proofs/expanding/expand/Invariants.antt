use Rattle.std.{proofs.Common.{◌≡◌, ◌+◌, ◌<◌, ◌≤◌, length}, specs.{Prelude.{Some, max}, List.slice_get}}
use Rattle.world_search.specs.{declared.graphs.Node.Node, Lists.IsMore, Private.{Shapes.shape, Graphs.{Fits, Grows, CameSo, IsSnug}}}
use Rattle.world_search.specs.declared.expanding.Came.TheVariants as outcome
use Rattle.world_search.proofs.expanding.expand.Given as goal

abbrev pub invariant-loop-fiber : goal.invariant-loop-fiber
invariant-loop-fiber g l = record {
  grows : Grows (g.W.Worlds.worlds l.initial.worlds) (g.W.Worlds.worlds l.worlds) (g.W.Worlds.faults l.initial.worlds) (g.W.Worlds.faults l.worlds)
      (shape l.initial.graph) (shape l.graph);
  fits : Fits g.W.Worlds.step g.W.Worlds.report g.W.Worlds.most_born l.limits.entries (g.W.Worlds.worlds l.worlds) (g.W.Worlds.faults l.worlds) (shape l.graph);
  flags : IsMore l.initial.graph.unsettled.items l.graph.unsettled.items;
  low : l.index < length l.graph.nodes.items;
  deep : (n : Node) → slice_get l.graph.nodes.items l.index ≡ Some n → n.depth < l.limits.entries;
  came : (w : _) → slice_get (g.W.Worlds.worlds l.worlds) l.index ≡ Some w →
      CameSo g.W.Worlds.step g.W.Worlds.report g.W.Worlds.most_born l.limits.entries (g.W.Worlds.worlds l.worlds) (g.W.Worlds.faults l.worlds)
      (shape l.graph) l.index w l.came l.fiber;
  room : length (g.W.Worlds.worlds l.worlds) ≤ max l.limits.worlds (length (g.W.Worlds.worlds l.initial.worlds));
  snug : IsSnug (length (g.W.Worlds.worlds l.initial.worlds)) (shape l.initial.graph) →
      IsSnug (length (g.W.Worlds.worlds l.worlds)) (shape l.graph);
  lost : l.came ≡ outcome.Lost → IsSnug (length (g.W.Worlds.worlds l.initial.worlds)) (shape l.initial.graph) →
      l.limits.worlds ≤ length (g.W.Worlds.worlds l.worlds);
  edges : length l.graph.edges.items ≤ length l.initial.graph.edges.items + l.fiber;
}
