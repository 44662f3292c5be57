use Rattle.std.proofs.Common.{length, ◌-◌}
use Rattle.term_parse.specs.Forms.{AreOpen}
use Rattle.term_parse.proofs.reader.whole.Given as goal

abbrev pub invariant-tokens : goal.invariant-tokens
invariant-tokens l = AreOpen l.text l.at l.stack

abbrev pub decreases-tokens : goal.decreases-tokens
decreases-tokens l = length l.text - l.at
