use Rattle.world_search.proofs.Lists.{got_none}
use Rattle.world_search.proofs.told.Told.new.Goals as goal

pub returns-clause-none : goal.returns-clause-none
returns-clause-none c = λ b n h. got_none h.0.items h.2.0 n (c.loop-alloc.invariant.none b h.0 h.1) h.2.1
