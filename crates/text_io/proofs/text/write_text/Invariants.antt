use Rattle.std.{proofs.Common.{length, ◌-◌, ◌≡◌, ◌≤◌, false, take}, specs.Io.KnownBytes.Appends}
use Rattle.text_io.proofs.text.write_text.Given as goal

abbrev pub invariant-loop-written : goal.invariant-loop-written
invariant-loop-written g l = record {
  within : l.written ≤ length l.text;
  healthy : (g.T.TextOut.seen l.out).failed ≡ false;
  written : Appends (g.T.TextOut.seen l.initial.out).contents (g.T.TextOut.seen l.out).contents (take l.written l.text);
}

abbrev pub decreases-loop-written : goal.decreases-loop-written
decreases-loop-written g l = length l.text - l.written
