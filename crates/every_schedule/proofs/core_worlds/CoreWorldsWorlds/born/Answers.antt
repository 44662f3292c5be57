use Rattle.std.proofs.Common.{arith}
use Rattle.every_schedule.proofs.Entering.{rests}
use Rattle.every_schedule.proofs.core_worlds.CoreWorldsWorlds.born.Goals as goal

pub returns-clause-rests : goal.returns-clause-rests
returns-clause-rests c = λ w at f past. let many = c.born_at.ensures.born w at in rests w f (omega arith)
