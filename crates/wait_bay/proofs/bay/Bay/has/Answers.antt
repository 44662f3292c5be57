use Rattle.std.proofs.Common.{rules}
use Rattle.wait_bay.proofs.bay.Bay.has.Goals as goal

pub returns-in-Never : goal.returns-in-Never
returns-in-Never c = search rules
