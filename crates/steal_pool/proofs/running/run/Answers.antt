use Rattle.run_ends.proofs.Ending.{final_or_unended}
use Rattle.steal_pool.proofs.running.run.Goals as goal

pub returns-in-Ok-clause-complete : goal.returns-in-Ok-clause-complete
returns-in-Ok-clause-complete o c = final_or_unended c.in-Ok.end.stopped _ _ c.in-Ok.ensures.complete c.in-Ok.ensures.stopped
