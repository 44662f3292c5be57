use Rattle.std.proofs.Common.{◌≡◌, drop, vec_len}
use Rattle.serde_json.specs.View.{items_view}
use Rattle.json_answers.{specs.ReportData.fibers_items, proofs.Behind.items_behind}
use Rattle.json_answers.proofs.report_values.fiber_values.Given as goal

-- followed by the values of the fibers that are left, the values so far are those of all fibers
abbrev pub invariant-loop-fiber : goal.invariant-loop-fiber
invariant-loop-fiber l = record {
  many : vec_len l.values ≡ l.fiber-index;
  so : items_behind (items_view l.values.items) (fibers_items l.fiber-index (drop l.fiber-index l.fibers)) ≡ fibers_items 0 l.fibers;
}
