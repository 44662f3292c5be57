use Rattle.std.proofs.Common.{◌≡◌, ◌-◌, ◌<◌, true, false, length}
use Rattle.world_search.specs.Private.Flags.{AreFlagged, KeepsFlags, AreBack, unset}
use Rattle.world_search.proofs.spread.sweep.Given as goal

abbrev pub invariant-loop-done : goal.invariant-loop-done
invariant-loop-done l = record {
  long : length l.flags.items ≡ length l.initial.flags.items;
  keeps : KeepsFlags l.initial.flags.items l.flags.items;
  flagged : AreFlagged l.edges l.initial.flags.items l.flags.items;
  back : l.changed ≡ false → AreBack l.edges l.flags.items (length l.edges - l.done);
  fewer : l.changed ≡ true → unset l.flags.items < unset l.initial.flags.items;
  same : l.changed ≡ false → l.flags.items ≡ l.initial.flags.items;
}
