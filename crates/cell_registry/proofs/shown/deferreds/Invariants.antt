use Rattle.cell_registry.proofs.Prelude.{◌≡◌, take, Cells, Shows}
use Rattle.cell_registry.proofs.shown.deferreds.Given as goal

abbrev pub invariant-loop-number : goal.invariant-loop-number
invariant-loop-number l = (s : Cells) → Shows l.limits l.words s → l.deferreds.items ≡ take l.number s.deferreds
