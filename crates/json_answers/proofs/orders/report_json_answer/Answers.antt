use Rattle.std.proofs.Common.{◌∙◌, ap}
use Rattle.serde_json.specs.Written.{has_float}
use Rattle.json_answers.proofs.Plain.{report_plain}
use Rattle.json_answers.proofs.orders.report_json_answer.Goals as goal

pub value_answer-requires : goal.value_answer-requires
value_answer-requires c = ap has_float c.in_ok-value.ensures ∙ report_plain c.args.report.now.fibers
