use Rattle.std.proofs.Common.{arith}
use Rattle.every_schedule.specs.Reduced.{hundred_own}
use Rattle.every_schedule.proofs.Trails.{none_made}
use Rattle.every_schedule.proofs.resting.EndingWorldsResting.many.Goals as goal

pub returns-clause-none : goal.returns-clause-none
returns-clause-none c = λ w at f past. let many = c.born_at.ensures.born w at in none_made hundred_own w f (omega arith)
