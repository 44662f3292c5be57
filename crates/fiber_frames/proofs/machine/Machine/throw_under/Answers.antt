use Rattle.std.proofs.Common.{rules}
use Rattle.fiber_frames.proofs.machine.Machine.throw_under.Goals as goal

pub returns-in-Handle-clause-state : goal.returns-in-Handle-clause-state
returns-in-Handle-clause-state c = search rules
