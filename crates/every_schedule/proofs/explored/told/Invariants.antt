use Rattle.std.{proofs.Common.{◌≡◌, length}, specs.{List.All, Vec.Iter.{into_iter_items, into_iter_len}}}
use Rattle.every_schedule.{specs.Explored.HasLawfulMarks, proofs.Listing.SoFar}
use Rattle.every_schedule.proofs.explored.told.Given as goal

-- the answers so far have their ends, and the others are left
abbrev pub invariant-loop-it : goal.invariant-loop-it
invariant-loop-it l = record {
  told : SoFar l.fn.worlds l.fn.found.items (into_iter_items l.it-iterator) l.answers.items;
  left : into_iter_len l.it-iterator ≡ length (into_iter_items l.it-iterator);
  lawful : All HasLawfulMarks l.answers.items;
}
