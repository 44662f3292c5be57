use Rattle.std.proofs.{Common.arith, lemmas.{Fmt.decimal_digit, Grind.common_steps}}
use Rattle.outcome_trace.proofs.backwards.put_digit.Goals as goal

pub returns-clause-text : goal.returns-clause-text
returns-clause-text c = rw (decimal_digit c.args.number c.requires.digit) (grind (arith, common_steps))

pub returns-clause-one : goal.returns-clause-one
returns-clause-one c = rw (decimal_digit c.args.number c.requires.digit) (omega arith)
