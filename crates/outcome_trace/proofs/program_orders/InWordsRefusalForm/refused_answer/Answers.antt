use Rattle.outcome_trace.proofs.AnswerLemmas.{refusal_answers}
use Rattle.outcome_trace.proofs.program_orders.InWordsRefusalForm.refused_answer.Goals as goal

pub returns : goal.returns
returns c =
    refusal_answers c.args._text.now c.args.refused c.refusal.result c.requires c.refusal.ensures.line c.refusal.ensures.status c.refusal.ensures.told
