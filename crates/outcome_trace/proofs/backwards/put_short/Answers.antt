use Rattle.std.proofs.{Common.arith, lemmas.Fmt.IsAscii-decimal}
use Rattle.outcome_trace.proofs.backwards.put_short.Goals as goal

pub returns-clause-ascii : goal.returns-clause-ascii
returns-clause-ascii c = IsAscii-decimal c.args.number (omega arith)
