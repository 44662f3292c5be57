use Rattle.std.proofs.Common.{inr, refl, sym, subst}
use Rattle.every_outcome.specs.Private.Keeping.{IsFull}
use Rattle.every_outcome.proofs.core_world.full_or_memory.Goals as goal

pub returns-in-Full : goal.returns-in-Full
returns-in-Full c = inr (refl, subst IsFull (sym c.in-Full.is) tt)
