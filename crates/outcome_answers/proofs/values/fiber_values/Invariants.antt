use Rattle.std.proofs.Common.{◌≡◌, drop, vec_len}
use Rattle.serde_json.specs.View.{items_view}
use Rattle.json_answers.proofs.Behind.{items_behind}
use Rattle.outcome_answers.specs.OutcomesData.{bare_items}
use Rattle.outcome_answers.proofs.values.fiber_values.Given as goal

-- these values and those of the fibers that are left are the values of all fibers
abbrev pub invariant-loop-fiber : goal.invariant-loop-fiber
invariant-loop-fiber l = record {
  many : vec_len l.values ≡ l.fiber-index;
  so : items_behind (items_view l.values.items) (bare_items l.fiber-index (drop l.fiber-index l.fibers)) ≡ bare_items 0 l.fibers;
}
