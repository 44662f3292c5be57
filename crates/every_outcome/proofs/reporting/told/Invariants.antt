use Rattle.std.{proofs.Common.{◌≡◌, length}, specs.Vec.Iter.{into_iter_items, into_iter_len}}
use Rattle.derived_ops.specs.{Expansion.code_of, Reading.source_of}
use Rattle.every_outcome.{specs.Places.{first_place, with_says}, proofs.Listing.SoFar}
use Rattle.every_outcome.proofs.reporting.told.Given as goal

-- the answers so far are listed, and the others are left
abbrev pub invariant-loop-it : goal.invariant-loop-it
invariant-loop-it g l = record {
  told : SoFar (with_says g.row.SAYS) l.fn.worlds (first_place (with_says g.row.SAYS) (code_of (source_of l.fn.program)) l.fn.limits) l.fn.found.items
      (into_iter_items l.it-iterator) l.answers.items;
  left : into_iter_len l.it-iterator ≡ length (into_iter_items l.it-iterator);
}
