use Rattle.outcome_trace.proofs.AnswerLemmas.{refusal_answers}
use Rattle.command_line.proofs.run_answers.text_refusal.Goals as goal

pub returns : goal.returns
returns c =
    refusal_answers c.args.text.now c.args.refused c.refusal.result c.requires c.refusal.ensures.line c.refusal.ensures.status c.refusal.ensures.told

pub refusal-requires : goal.refusal-requires
refusal-requires c = record { text = c.args.text.now; is = c.requires }
