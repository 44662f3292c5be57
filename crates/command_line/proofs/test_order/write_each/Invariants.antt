use Rattle.std.proofs.Common.{◌≡◌, false}
use Rattle.command_line.proofs.test_order.write_each.Given as goal

-- no write to `out` has failed so far, and none to `err` unless progress says so
abbrev pub invariant-loop-index : goal.invariant-loop-index
invariant-loop-index g l = record {
  out : (g.O.TextOut.seen l.out).failed ≡ false;
  err : l.progress.failed ≡ false → (g.E.TextOut.seen l.err).failed ≡ false;
}
