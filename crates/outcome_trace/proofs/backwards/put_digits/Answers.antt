use Rattle.std.proofs.{Common.{arith, rules}, lemmas.Fmt.length-decimal-le}
use Rattle.outcome_trace.proofs.backwards.put_digits.Goals as goal

pub write_digits-requires : goal.write_digits-requires
write_digits-requires c =
    (omega (arith, length-decimal-le 20 c.args.number (omega arith) (omega arith) (omega arith)), search rules)
