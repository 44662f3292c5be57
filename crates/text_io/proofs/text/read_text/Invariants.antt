use Rattle.std.{proofs.Common.{◌+◌, ◌≡◌, ◌<◌, false, take, vec_len}, specs.Io.KnownBytes.Consumes}
use Rattle.text_io.proofs.text.read_text.Given as goal

abbrev pub invariant-loop : goal.invariant-loop
invariant-loop g l = record {
  sized : vec_len l.text ≡ 65537;
  within : l.length < 65537;
  healthy : (g.T.TextIn.seen l.input).failed ≡ false;
  unended : (g.T.TextIn.seen l.input).ended ≡ (g.T.TextIn.seen l.initial.input).ended;
  counted : (g.T.TextIn.seen l.input).reads ≡ (g.T.TextIn.seen l.initial.input).reads + l.counter;
  taken : Consumes (g.T.TextIn.seen l.initial.input).remaining (g.T.TextIn.seen l.input).remaining (take l.length l.text.items);
}
