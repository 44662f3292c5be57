use Rattle.std.proofs.Common.{length, ◌-◌}
use Rattle.term_parse.proofs.Lexing.{RunsTo}
use Rattle.term_parse.proofs.token.run_end.Given as goal

abbrev pub invariant-loop-at : goal.invariant-loop-at
invariant-loop-at l = RunsTo l.text l.from l.at

abbrev pub decreases-loop-at : goal.decreases-loop-at
decreases-loop-at l = length l.text - l.at
