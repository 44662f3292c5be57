use Rattle.cell_registry.proofs.Prelude.{arith, subst, common_steps, Finish, after, reply_of, refusal, IsAllowed, IsPlain, Reply}
use Rattle.cell_registry.proofs.PlainCalls.{IsPlain-made}
use Rattle.cell_registry.proofs.plain.PlainRegistry.finish.Goals as goal

pub invariant_of-self-2 : goal.invariant_of-self-2
unfolding after reply_of refusal IsAllowed
invariant_of-self-2 c = IsPlain-made c.args.self.now _ c.args.by (Finish c.args.outcome) Reply.Done (subst IsPlain c.self.view_is c.self.invariant)
    c.requires.may (grind (arith, common_steps))

pub returns-clause-lawful : goal.returns-clause-lawful
returns-clause-lawful c = invariant_of-self-2 c
