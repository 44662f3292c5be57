use Rattle.std.proofs.Common.{map, arith}
use Rattle.serde_json.specs.View.{view}
use Rattle.json_answers.proofs.FoundValues.{all_came, came, one_more}
use Rattle.json_answers.proofs.sample_values.coming_values.Goals as goal

pub loop-coming-preserved : goal.loop-coming-preserved
loop-coming-preserved c =
    came c.args.wants.now c.args.comings.now c.loop-coming.coming-index c.coming-item.result (map view c.loop-coming.values.items) (map view c.push.new.self.items)
    (view c.in_ok-value.value) (omega arith) c.coming-item.is c.in_ok-value.ensures
    (one_more c.loop-coming.values.items c.push.new.self.items c.in_ok-value.value c.in_ok-push.ensures.items) c.loop-coming.invariant

pub returns : goal.returns
returns c =
    all_came c.args.wants.now c.args.comings.now c.loop-coming.coming-index (map view c.loop-coming.values.items) (omega arith) c.loop-coming.invariant
