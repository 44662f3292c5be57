use Rattle.std.proofs.Common.{rules, arith}
use Rattle.model_runs.proofs.moments.nothing_found.Goals as goal

pub returns : goal.returns
returns c = λ code k wanted. record {
  met = record {
    each = λ i d low. absurd (omega arith);
    none = λ e. absurd (cc);
  };
  same = search rules;
}
