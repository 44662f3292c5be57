use Rattle.std.proofs.Common.{refl}
use Rattle.model_runs.proofs.judging.moment_result.Goals as goal

pub returns-clause-moment : goal.returns-clause-moment
returns-clause-moment c = λ code k wanted words right there. record {
  form = refl;
  rule = refl;
  fails = refl;
  judged = c.judge_at-judged.ensures.judged code k wanted words right there;
  shown = c.judge_at-judged.ensures.shown code k wanted words right there;
}
