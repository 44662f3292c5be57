use Rattle.std.proofs.Common.{rules}
use Rattle.slot_laws.proofs.waiters.Waiters.register.Goals as goal

pub returns-clause-ok : goal.returns-clause-ok
returns-clause-ok c = search rules
