use Rattle.std.proofs.Common.{arith}
use Rattle.model_runs.proofs.stages.search_without_worlds.Goals as goal

pub returns : goal.returns
returns c = λ code k. record {
  each = λ i d low. absurd (omega arith);
  all = λ e. absurd (cc);
}
