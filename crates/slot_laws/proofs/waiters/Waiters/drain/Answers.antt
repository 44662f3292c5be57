use Rattle.std.proofs.Common.{rules}
use Rattle.slot_laws.proofs.waiters.Waiters.drain.Goals as goal

pub returns-clause-value : goal.returns-clause-value
returns-clause-value c = search rules
