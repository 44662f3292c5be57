use Rattle.std.proofs.Common.{arith}
use Rattle.every_schedule.specs.Reduced.{hundred_own}
use Rattle.every_schedule.proofs.Leaps.{leapt_rests}
use Rattle.every_schedule.proofs.ending_worlds.EndingWorldsWorlds.born.Goals as goal

pub returns-clause-rests : goal.returns-clause-rests
returns-clause-rests c = λ w at f past. let many = c.born_at.ensures.born w at in leapt_rests hundred_own w f (omega arith)
