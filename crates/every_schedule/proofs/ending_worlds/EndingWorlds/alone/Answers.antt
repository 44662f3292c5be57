use Rattle.std.proofs.{lemmas.Result.IfOk-weaker, Common.subst}
use Rattle.world_search.specs.Landings.{EntersAt}
use Rattle.every_schedule.proofs.Leaps.{leapt_none}
use Rattle.every_schedule.proofs.ending_worlds.EndingWorlds.alone.Goals as goal

pub returns-clause-lands : goal.returns-clause-lands
returns-clause-lands c =
    IfOk-weaker c.entry.result _ _
    (λ it lands. λ p at.
    subst (EntersAt c.entry.new.self.places c.entry.new.self.faults it) (leapt_none p c.args.fiber) (lands p at)) c.entry.ensures.lands
