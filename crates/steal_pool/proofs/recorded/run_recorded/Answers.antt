use Rattle.run_ends.proofs.Recording.{listed_end, settled_end}
use Rattle.steal_pool.proofs.recorded.run_recorded.Goals as goal

pub returns-in-Ok-clause-settled : goal.returns-in-Ok-clause-settled
returns-in-Ok-clause-settled g c = settled_end _ _ _ c.record_with.result.end c.record_with.ensures.ends

pub returns-in-Ok-clause-listed : goal.returns-in-Ok-clause-listed
returns-in-Ok-clause-listed g c = listed_end _ _ _ c.record_with.result.end c.record_with.ensures.ends
