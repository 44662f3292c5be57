use Rattle.std.{proofs.Common.{◌≡◌, ◌+◌, ℕ, List, ◌++◌}, specs.Prelude.reverse}
use Rattle.world_search.specs.Private.Paths.{IsChained, IsPath}
use Rattle.world_search.proofs.schedules.schedule_to.Given as goal

abbrev pub invariant-loop-entry : goal.invariant-loop-entry
invariant-loop-entry l = record {
  chained : IsChained l.nodes l.node;
  deep : l.node.depth + l._entry ≡ l.fn.last.depth;
  path : (s : List ℕ) → IsPath l.nodes l.node s → IsPath l.nodes l.fn.last (s ++ reverse l.schedule.items);
}
