use Rattle.std.proofs.Common.{◌≡◌, ◌+◌, drop}
use Rattle.made_rows.specs.Making.{leading}
use Rattle.made_rows.specs.declared.product.Product.TheVariants as what
use Rattle.made_rows.proofs.made.leading.Given as goal

abbrev pub invariant-loop-rows : goal.invariant-loop-rows
invariant-loop-rows l = l.rows + leading l.before (drop l.rows l.deeds) ≡ leading what.Nothing l.deeds
