use Rattle.std.proofs.Common.{arith}
use Rattle.model_runs.proofs.Looks.{one_more_alike}
use Rattle.model_runs.proofs.outcomes.explored_answers.Goals as goal

pub loop-answer-preserved : goal.loop-answer-preserved
loop-answer-preserved g c = record {
  each = c.in_ok-whole.ensures.each;
  all = λ yes.
      one_more_alike (λ a. a.schedule) (λ a. a.schedule) c.loop-answer.answers.items _ c.args.found.now c.loop-answer.answer-index c.answer-item.result
      (omega arith) c.answer-item.is (c.loop-answer.invariant.all (c.in_ok-whole.ensures.whole yes)) (c.in_ok-whole.ensures.more yes);
}
