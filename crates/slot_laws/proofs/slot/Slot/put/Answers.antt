use Rattle.std.proofs.Common.{rules}
use Rattle.slot_laws.proofs.slot.Slot.put.Goals as goal

pub returns-clause-refused : goal.returns-clause-refused
returns-clause-refused c = search rules
