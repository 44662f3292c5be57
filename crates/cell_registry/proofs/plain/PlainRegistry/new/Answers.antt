use Rattle.std.proofs.Common.{rules}
use Rattle.cell_registry.proofs.PlainCalls.{IsPlain-new}
use Rattle.cell_registry.proofs.plain.PlainRegistry.new.Goals as goal

pub invariant_of-result : goal.invariant_of-result
invariant_of-result c = IsPlain-new _ _ c.requires.limits (search rules)

pub returns-clause-lawful : goal.returns-clause-lawful
returns-clause-lawful c = invariant_of-result c
