use Rattle.cell_registry.specs.contracts.plain.PlainRegistry.{the_view}
use Rattle.cell_registry.proofs.Uncounting.{plain_uncounted}
use Rattle.cell_registry.proofs.plain.PlainRegistry.forget_counts.Goals as goal

pub invariant_of-self : goal.invariant_of-self
invariant_of-self c = plain_uncounted (the_view c.self.inside) c.forget_counts.new.cells.items c.self.invariant c.forget_counts.ensures

pub returns-clause-lawful : goal.returns-clause-lawful
returns-clause-lawful c = invariant_of-self c
