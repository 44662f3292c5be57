use Rattle.std.proofs.Common.{arith}
use Rattle.model_claims.proofs.Stacks.{one_more}
use Rattle.model_claims.proofs.truth.run.Goals as goal

pub loop-word-preserved : goal.loop-word-preserved
loop-word-preserved c =
    one_more c.args.source.now c.args.condition.now c.args.seen.now c.args.held.now c.args.stack.now.items c.args.words.now
    c.loop-word.word-index c.word-item.result c.loop-word.stack.items c.word_truth-truth.new.stack.items c.push.new.self.items
    c.word_truth-truth.result (omega arith) c.word-item.is c.loop-word.invariant c.word_truth-truth.ensures.truth
    c.word_truth-truth.ensures.rest c.in_ok-push.ensures.items
