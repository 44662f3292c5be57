use Rattle.std.proofs.Common.{arith}
use Rattle.effect_term.proofs.counts.on_top.Goals as goal

pub returns : goal.returns
returns c = omega arith
