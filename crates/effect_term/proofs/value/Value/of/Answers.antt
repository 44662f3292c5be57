use Rattle.std.proofs.Common.{rules}
use Rattle.effect_term.proofs.value.Value.of.Goals as goal

pub returns-else-number-clause-none : goal.returns-else-number-clause-none
returns-else-number-clause-none c = search rules
