use Rattle.json_answers.proofs.FindingLemmas.{finding_plain}
use Rattle.json_answers.proofs.finding_orders.InJsonFindingForm.finding_text.Goals as goal

pub value_answer-requires : goal.value_answer-requires
value_answer-requires c = finding_plain _ _ c.in_ok-value.ensures
