use Rattle.std.proofs.Common.{rules}
use Rattle.model_forms.proofs.Lexing.{word_goes_on}
use Rattle.model_forms.proofs.token.word_end.Goals as goal

pub loop-at-preserved : goal.loop-at-preserved
loop-at-preserved c = word_goes_on c.args.text.now c.args.from c.loop-at.at c.loop-at.invariant c.loop-at-test.true (search rules)
