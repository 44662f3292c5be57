use Rattle.std.{proofs.Common.{length, ◌≤◌, take}, specs.Io.KnownBytes.Appends}
use Rattle.report_files.proofs.writing.write_whole.Given as goal

abbrev pub invariant-loop : goal.invariant-loop
invariant-loop g l = record {
  within : l.written ≤ length l.text;
  written : Appends (g.W.Write.contents l.initial.file) (g.W.Write.contents l.file) (take l.written l.text);
}
