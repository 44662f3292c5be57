use Rattle.derived_ops.specs.Tree.{Tree}
use Rattle.cell_registry.specs.declared.limits.Limits.{Limits}
use Rattle.every_schedule.specs.Private.Looking.{AddsMet, AreFoundBelow, IsAt}
use Rattle.every_schedule.proofs.moments.look.Given as goal

-- the first `number` claims were looked at
abbrev pub invariant-loop-number : goal.invariant-loop-number
invariant-loop-number l = record {
  added : (code : Tree) (k : Limits) → IsAt code k l.world l.seen l.entries → AddsMet code k l.claims l.entries l.fn.met.items l.met.items;
  found : (code : Tree) (k : Limits) → IsAt code k l.world l.seen l.entries → AreFoundBelow code k l.claims l.entries l.met.items l.number;
}
