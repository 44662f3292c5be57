use Rattle.cell_registry.proofs.Prelude.{arith, common_steps, after, reply_of, refusal, IsAllowed}
use Rattle.cell_registry.proofs.plain.PlainRegistry.complete.Goals as goal

pub returns-then-empty-clause-made : goal.returns-then-empty-clause-made
unfolding after reply_of refusal IsAllowed
returns-then-empty-clause-made c = grind (arith, common_steps)
