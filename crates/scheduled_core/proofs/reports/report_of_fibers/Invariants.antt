use Rattle.std.{proofs.Common.{◌≡◌, ◌++◌, length, map}, specs.{List.All, Vec.Iter.{into_iter_items, into_iter_len}}}
use Rattle.fiber_frames.specs.Marks.{AreLawful}
use Rattle.scheduled_core.specs.Core.{fiber_report}
use Rattle.scheduled_core.proofs.reports.report_of_fibers.Given as goal

-- the fibers so far are reported, and the others are left
abbrev pub invariant-loop-fiber : goal.invariant-loop-fiber
invariant-loop-fiber l = record {
  told : l.reports.items ++ map fiber_report (into_iter_items l.fiber-iterator) ≡ map fiber_report l.fn.fibers.items;
  left : into_iter_len l.fiber-iterator ≡ length (into_iter_items l.fiber-iterator);
  lawful : All (λ f. AreLawful f.marks f.outcome) l.reports.items;
}
