use Rattle.json_answers.proofs.AnswerLemmas.{parse_shown, term_shown}
use Rattle.json_answers.proofs.refusals.refusal_json.Goals as goal

pub returns-in-Parse : goal.returns-in-Parse
returns-in-Parse c =
    parse_shown c.args.text.now c.in-Parse.error c.args.refused c.in-Parse.is c.requires c.parse_value.result c.parse_value.ensures.value
    c.parse_value.ensures.memory

pub returns-in-Term : goal.returns-in-Term
returns-in-Term c =
    term_shown c.args.text.now c.in-Term.error c.args.refused c.in-Term.is c.requires c.term_value.result c.term_value.ensures.value
    c.term_value.ensures.memory
