use Rattle.std.proofs.{Common.arith, lemmas.Fmt.length-decimal-le}
use Rattle.outcome_trace.proofs.Ascii.{IsAscii-of_signed}
use Rattle.outcome_trace.proofs.backwards.put_signed.Goals as goal

pub put-sign-requires-clause-start : goal.put-sign-requires-clause-start
put-sign-requires-clause-start c =
    omega (arith, length-decimal-le 19 c.unsigned_abs.result (omega arith) (omega arith) (omega arith))

pub put_behind-requires-clause-start : goal.put_behind-requires-clause-start
put_behind-requires-clause-start c =
    omega (arith, length-decimal-le 19 c.unsigned_abs.result (omega arith) (omega arith) (omega arith))

pub returns-then-number-lt0-clause-start : goal.returns-then-number-lt0-clause-start
returns-then-number-lt0-clause-start c =
    omega (arith, length-decimal-le 19 c.unsigned_abs.result (omega arith) (omega arith) (omega arith))

pub returns-then-number-lt0-clause-ascii : goal.returns-then-number-lt0-clause-ascii
returns-then-number-lt0-clause-ascii c = IsAscii-of_signed c.args.value c.get-number.ensures.range

pub returns-clause-ascii : goal.returns-clause-ascii
returns-clause-ascii c = IsAscii-of_signed c.args.value c.get-number.ensures.range
