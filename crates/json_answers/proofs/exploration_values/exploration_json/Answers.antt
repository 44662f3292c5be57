use Rattle.json_answers.proofs.FoundValues.{exploration_found}
use Rattle.json_answers.proofs.exploration_values.exploration_json.Goals as goal

pub returns : goal.returns
returns c =
    exploration_found c.args.wants.now c.args.exploration.now _ _ c.in_ok-values.values.items c.in_ok-others.others.items c.exploration_value.result
    c.as_slice-answers.ensures c.in_ok-append.ensures.items c.in_ok-values.ensures c.in_ok-others.ensures c.exploration_value.ensures
