use Rattle.std.proofs.Common.{rules}
use Rattle.term_parse.proofs.Lexing.{run_goes_on}
use Rattle.term_parse.proofs.token.run_end.Goals as goal

pub loop-at-preserved : goal.loop-at-preserved
loop-at-preserved c = run_goes_on c.args.text.now c.args.from c.loop-at.at c.loop-at.invariant c.loop-at-test.true (search rules)
