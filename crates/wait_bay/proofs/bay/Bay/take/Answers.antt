use Rattle.std.proofs.Common.{rules}
use Rattle.wait_bay.proofs.bay.Bay.take.Goals as goal

pub returns-clause-own : goal.returns-clause-own
returns-clause-own g c = search rules
