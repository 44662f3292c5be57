use Rattle.cell_registry.proofs.Prelude.{arith, subst, common_steps, Join, after, reply_of, refusal, IsAllowed, IsPlain, Reply}
use Rattle.cell_registry.proofs.PlainCalls.{IsPlain-made}
use Rattle.cell_registry.proofs.plain.PlainRegistry.join.Goals as goal

pub invariant_of-self : goal.invariant_of-self
unfolding after reply_of refusal IsAllowed
invariant_of-self c =
    IsPlain-made c.args.self.now _ c.args.by (Join c.args.fiber) (Reply.Join c.join.result) (subst IsPlain c.self.view_is c.self.invariant)
    c.requires.may (grind (arith, common_steps))

pub returns-clause-lawful : goal.returns-clause-lawful
returns-clause-lawful c = invariant_of-self c
