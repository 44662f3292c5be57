use Rattle.exploration_text.proofs.Spelled.{parsed, unspelled}
use Rattle.exploration_text.proofs.wants.read_value.Goals as goal

pub returns-in-Err-clause-none : goal.returns-in-Err-clause-none
returns-in-Err-clause-none c = λ v h is. let same = parsed v c.args.text.now c.parse.result h is c.parse.ensures.value.0 in cc

pub returns-in-Ok-clause-none : goal.returns-in-Ok-clause-none
returns-in-Ok-clause-none c =
    unspelled c.in-Ok.number c.args.text.now c.parse.result c.value_as_printed.result c.in-Ok.is c.parse.ensures.value.0 c.value_as_printed.ensures.none
