use Rattle.std.proofs.{Common.subst, lemmas.Result.IfOk-weaker}
use Rattle.world_search.specs.Landings.{EntersAt}
use Rattle.every_schedule.proofs.Leaps.{leapt_none}
use Rattle.every_schedule.proofs.core_worlds.CoreWorldsWorlds.enter.Goals as goal

pub returns-clause-lands : goal.returns-clause-lands
returns-clause-lands c = IfOk-weaker c.entry.result _ _ (λ it lands. λ w at.
    subst (EntersAt c.entry.new.self.places c.entry.new.self.faults it) (leapt_none w c.args.fiber) (lands w at)) c.entry.ensures.lands
