use Rattle.std.proofs.{Common.arith, lemmas.Grind.common_steps}
use Rattle.control_word.proofs.value_words.value_word.Goals as goal

pub returns-clause-bits : goal.returns-clause-bits
returns-clause-bits c = grind (arith, common_steps)
