use Rattle.std.{proofs.Common.{◌≡◌, ℕ, ◌<◌, false, length}, specs.{Prelude.{Some, Ok}, List.slice_get}}
use Rattle.world_search.specs.{Answers.{IsAnswered, TellOnce}, Private.{Listed.{AreListed, HaveNoFault}, Shapes.shape, Told.AreFiled}}
use Rattle.world_search.proofs.listing.list_worlds.Given as goal

abbrev pub invariant-loop-index : goal.invariant-loop-index
invariant-loop-index g l = record {
  listed : AreListed (shape l.graph) l.answers.items;
  once : TellOnce g.W.Worlds.report (g.W.Worlds.worlds l.worlds) l.initial.answers.items →
      TellOnce g.W.Worlds.report (g.W.Worlds.worlds l.worlds) l.answers.items;
  faultless : HaveNoFault l.initial.answers.items → HaveNoFault l.answers.items;
  some : 0 < length l.told.buckets.items;
  filed : AreFiled g.W.Worlds.report_digest g.W.Worlds.report (g.W.Worlds.worlds l.worlds) l.answers.items l.told.buckets.items;
  told : (i : ℕ) (w : _) → i < l.index → slice_get l.graph.unsettled.items i ≡ Some false → slice_get (g.W.Worlds.worlds l.worlds) i ≡ Some w →
      IsAnswered g.W.Worlds.step g.W.Worlds.report (g.W.Worlds.worlds l.worlds) (g.W.Worlds.faults l.worlds) l.answers.items (Ok w);
}
