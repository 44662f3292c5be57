use Rattle.json_answers.proofs.AnswerLemmas.{parse_refused, term_refused}
use Rattle.json_answers.proofs.refusals.refusal_answer.Goals as goal

pub returns-in-Parse : goal.returns-in-Parse
returns-in-Parse c =
    parse_refused c.args.text.now c.in-Parse.error c.args.refused c.in-Parse.is c.requires c.parse_answer.result c.parse_answer.ensures.line
    c.parse_answer.ensures.status c.parse_answer.ensures.memory

pub returns-in-Term : goal.returns-in-Term
returns-in-Term c =
    term_refused c.args.text.now c.in-Term.error c.args.refused c.in-Term.is c.requires c.term_answer.result c.term_answer.ensures.line
    c.term_answer.ensures.status c.term_answer.ensures.memory
