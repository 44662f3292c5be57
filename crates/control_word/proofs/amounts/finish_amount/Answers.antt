use Rattle.std.proofs.Common.{arith}
use Rattle.control_word.proofs.Sums.{finishes}
use Rattle.control_word.proofs.amounts.finish_amount.Goals as goal

pub returns-clause-sum : goal.returns-clause-sum
returns-clause-sum c = omega arith

pub returns-clause-law : goal.returns-clause-law
returns-clause-law c = rw (returns-clause-sum c) (finishes c.args.finalizing c.args.outcome)
