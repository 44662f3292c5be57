use Rattle.std.proofs.{Common.arith, lemmas.Fmt.{IsAscii-decimal, length-decimal-le}}
use Rattle.outcome_trace.proofs.backwards.put_number.Goals as goal

pub put_behind-requires-clause-start : goal.put_behind-requires-clause-start
put_behind-requires-clause-start c =
    omega (arith, length-decimal-le 20 c.args.number (omega arith) (omega arith) (omega arith))

pub returns-clause-start : goal.returns-clause-start
returns-clause-start c =
    omega (arith, length-decimal-le 20 c.args.number (omega arith) (omega arith) (omega arith))

pub returns-clause-ascii : goal.returns-clause-ascii
returns-clause-ascii c = IsAscii-decimal c.args.number (omega arith)
