use Rattle.comparison_answers.proofs.PairLemmas.{first_pair, pair_read}
use Rattle.comparison_answers.proofs.pairs.answer_pair.Goals as goal

pub returns-in-Ok : goal.returns-in-Ok
returns-in-Ok c =
    let order = c.args.order.now in
    pair_read order.json order.limits order.bounds order.basis c.args.first.now c.args.second.now c.in-Ok.program c.second_answer.result
    c.in-Ok.ensures.program c.in-Ok.ensures.limits c.second_answer.ensures

pub returns-in-Err : goal.returns-in-Err
returns-in-Err c =
    let order = c.args.order.now in
    first_pair order.json order.limits order.bounds order.basis c.args.first.now c.args.second.now c.first_refusal.result c.first_refusal.ensures
