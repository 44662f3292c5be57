use Rattle.std.proofs.Common.{◌+◌, ◌≡◌, false, vec_len}
use Rattle.std.specs.Io.KnownBytes.{Consumes}
use Rattle.command_line.proofs.first_line.read_input.Given as goal

abbrev pub invariant-loop : goal.invariant-loop
invariant-loop g l = record {
  sized : vec_len l.piece ≡ 65536;
  healthy : (g.T.TextIn.seen l.input).failed ≡ false;
  counted : (g.T.TextIn.seen l.input).reads ≡ (g.T.TextIn.seen l.initial.input).reads + l.counter;
  taken : Consumes (g.T.TextIn.seen l.initial.input).remaining (g.T.TextIn.seen l.input).remaining l.bytes.items;
}
