use Rattle.std.proofs.Common.{◌≡◌, length}
use Rattle.world_search.specs.Private.Flags.{AreFlagged, KeepsFlags, unset}
use Rattle.world_search.proofs.spread.spread.Given as goal

abbrev pub invariant-loop : goal.invariant-loop
invariant-loop l = record {
  long : length l.flags.items ≡ length l.initial.flags.items;
  keeps : KeepsFlags l.initial.flags.items l.flags.items;
  flagged : AreFlagged l.edges l.initial.flags.items l.flags.items;
}

abbrev pub decreases-loop : goal.decreases-loop
decreases-loop l = unset l.flags.items
