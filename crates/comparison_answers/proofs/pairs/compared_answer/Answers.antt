use Rattle.serde_json.specs.View.{view}
use Rattle.derived_ops.specs.{Expansion.code_of, Reading.source_of}
use Rattle.comparison_answers.proofs.PairLemmas.{comparison_plain, within}
use Rattle.comparison_answers.proofs.pairs.compared_answer.Goals as goal

pub value_answer-requires : goal.value_answer-requires
value_answer-requires c = comparison_plain c.in-Ok.comparison (view c.in_ok-value.value) c.in_ok-value.ensures

pub text_of_comparison-requires-clause-first_within : goal.text_of_comparison-requires-clause-first_within
text_of_comparison-requires-clause-first_within c =
    let it = c.in-Ok.comparison in
    within c.args.order.now.basis (code_of (source_of c.args.first.now)) (code_of (source_of c.args.second.now)) c.args.order.now.limits it.first
    it.second it.first_extra c.in-Ok.ensures.first

pub text_of_comparison-requires-clause-second_within : goal.text_of_comparison-requires-clause-second_within
text_of_comparison-requires-clause-second_within c =
    let it = c.in-Ok.comparison in
    within c.args.order.now.basis (code_of (source_of c.args.second.now)) (code_of (source_of c.args.first.now)) c.args.order.now.limits it.second
    it.first it.second_extra c.in-Ok.ensures.second
