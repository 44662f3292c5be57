use Rattle.std.proofs.Common.{◌∙◌, arith}
use Rattle.model_forms.proofs.Lexing.{comment_goes}
use Rattle.model_forms.proofs.token.comment_end.Goals as goal

pub loop-at-preserved : goal.loop-at-preserved
loop-at-preserved c = record {
  low = omega arith;
  high = omega arith;
  skipped = c.loop-at.invariant.skipped ∙ comment_goes c.args.text.now c.loop-at.at c.loop-at-test.true c.if-text-at-eq10.false;
}
