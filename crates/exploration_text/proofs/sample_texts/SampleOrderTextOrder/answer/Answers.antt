use Rattle.outcome_trace.proofs.AnswerLemmas.{refusal_answers}
use Rattle.exploration_text.proofs.Sampled.{program_sampled, refusal_sampled}
use Rattle.exploration_text.proofs.sample_texts.SampleOrderTextOrder.answer.Goals as goal

pub returns-in-Ok : goal.returns-in-Ok
returns-in-Ok c =
    let order = c.args.self.now in
    program_sampled c.args.text.now order.limits order.times order.entries order.wants.items c.in-Ok.program c.sampled_answer.result c.in-Ok.ensures.program
    c.in-Ok.ensures.limits c.sampled_answer.ensures

pub returns-in-Err : goal.returns-in-Err
returns-in-Err c =
    let order = c.args.self.now in
    refusal_sampled c.args.text.now order.limits order.times order.entries order.wants.items c.refusal.result
    (refusal_answers c.args.text.now c.in-Err.refused c.refusal.result c.in-Err.ensures.refused c.refusal.ensures.line c.refusal.ensures.status
    c.refusal.ensures.told)

pub refusal-requires : goal.refusal-requires
refusal-requires c = record { text = c.args.text.now; is = c.in-Err.ensures.refused }
