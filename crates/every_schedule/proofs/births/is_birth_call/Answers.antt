use Rattle.std.proofs.Common.{rules}
use Rattle.every_schedule.proofs.births.is_birth_call.Goals as goal

pub returns-in-Start-clause-birth : goal.returns-in-Start-clause-birth
returns-in-Start-clause-birth c = search rules
