use Rattle.std.proofs.Common.{rules}
use Rattle.slot_laws.proofs.slot.Slot.take.Goals as goal

pub returns-clause-taken : goal.returns-clause-taken
returns-clause-taken c = search rules
