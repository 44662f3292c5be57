use Rattle.outcome_answers.proofs.BareValues.{outcomes_found}
use Rattle.outcome_answers.proofs.values.outcomes_json.Goals as goal

pub returns : goal.returns
returns c =
    outcomes_found c.args.says c.args.wants.now c.args.exploration.now _ _ c.in_ok-values.values.items c.in_ok-others.others.items c.outcomes_value.result
    c.as_slice-answers.ensures c.in_ok-append.ensures.items c.in_ok-values.ensures c.in_ok-others.ensures c.outcomes_value.ensures
