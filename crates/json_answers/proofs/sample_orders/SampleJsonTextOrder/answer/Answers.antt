use Rattle.json_answers.proofs.FoundLemmas.{program_sampled, refusal_sampled}
use Rattle.json_answers.proofs.sample_orders.SampleJsonTextOrder.answer.Goals as goal

pub returns-in-Ok : goal.returns-in-Ok
returns-in-Ok c =
    let order = c.args.self.now.order in
    program_sampled c.args.text.now order.limits order.seed order.times order.entries order.wants.items c.in-Ok.program c.sampled_answer.result c.in-Ok.ensures.program
    c.in-Ok.ensures.limits c.sampled_answer.ensures

pub returns-in-Err : goal.returns-in-Err
returns-in-Err c =
    let order = c.args.self.now.order in
    refusal_sampled c.args.text.now order.limits order.seed order.times order.entries order.wants.items c.refusal_answer.result c.refusal_answer.ensures
