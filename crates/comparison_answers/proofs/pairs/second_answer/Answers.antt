use Rattle.comparison_answers.proofs.PairLemmas.{pair_compared, second_pair}
use Rattle.comparison_answers.proofs.pairs.second_answer.Goals as goal

pub returns-in-Ok : goal.returns-in-Ok
returns-in-Ok c =
    let order = c.args.order.now in
    pair_compared order.json order.limits order.bounds order.basis c.args.first.now c.args.second.now c.in-Ok.program c.compared_answer.result
    c.in-Ok.ensures.program c.in-Ok.ensures.limits c.compared_answer.ensures

pub returns-in-Err : goal.returns-in-Err
returns-in-Err c =
    let order = c.args.order.now in
    second_pair order.json order.limits order.bounds order.basis c.args.first.now c.args.second.now c.second_refusal.result c.second_refusal.ensures
