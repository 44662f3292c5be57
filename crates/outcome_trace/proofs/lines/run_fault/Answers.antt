use Rattle.std.proofs.Common.{rules}
use Rattle.outcome_trace.proofs.lines.run_fault.Goals as goal

pub returns-in-Full-Refs-default : goal.returns-in-Full-Refs-default
returns-in-Full-Refs-default c = search rules
