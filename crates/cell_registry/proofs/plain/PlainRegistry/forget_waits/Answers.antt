use Rattle.cell_registry.specs.contracts.plain.PlainRegistry.{the_view}
use Rattle.cell_registry.proofs.Forgetting.{plain_with}
use Rattle.cell_registry.proofs.plain.PlainRegistry.forget_waits.Goals as goal

pub invariant_of-self : goal.invariant_of-self
invariant_of-self c = plain_with (the_view c.self.inside) c.forget_waits.new.cells.items c.self.invariant c.forget_waits.ensures

pub returns-clause-lawful : goal.returns-clause-lawful
returns-clause-lawful c = invariant_of-self c
