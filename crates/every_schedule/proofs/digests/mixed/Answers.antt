use Rattle.std.proofs.Common.{rules}
use Rattle.every_schedule.specs.Digests.{mixed}
use Rattle.every_schedule.proofs.digests.mixed.Goals as goal

pub returns : goal.returns
unfolding mixed
returns c = search rules
