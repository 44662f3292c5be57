use Rattle.std.proofs.Common.{◌∙◌, ap}
use Rattle.serde_json.specs.Written.{has_float}
use Rattle.json_answers.proofs.Plain.{fault_plain}
use Rattle.json_answers.proofs.orders.fault_json_answer.Goals as goal

pub value_answer-requires : goal.value_answer-requires
value_answer-requires c = ap has_float c.in_ok-value.ensures ∙ fault_plain c.args.error
