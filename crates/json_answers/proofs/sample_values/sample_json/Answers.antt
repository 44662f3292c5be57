use Rattle.json_answers.proofs.FoundValues.{sample_found}
use Rattle.json_answers.proofs.sample_values.sample_json.Goals as goal

pub returns : goal.returns
returns c =
    sample_found c.args.wants.now c.args.seed c.args.sample.now _ c.in_ok-answers.answers.items c.sample_value.result c.as_slice.ensures c.in_ok-answers.ensures
    c.sample_value.ensures
