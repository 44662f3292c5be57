use Rattle.std.proofs.Common.{[], ◌∙◌}
use Rattle.term_parse.proofs.Stacks.{no_opening, first_opening}
use Rattle.term_parse.proofs.reader.first_word.Goals as goal

pub returns-in_default : goal.returns-in_default
returns-in_default c = record {
  within = tt;
  found = tt;
  fault = λ ne. no_opening c.args.text.now 0 c.in_ok-token.token c.in_ok-token.ensures.found c.in_ok-token.ensures.good c.in_default.not-Open;
}

pub returns-in-Ok-clause-found : goal.returns-in-Ok-clause-found
returns-in-Ok-clause-found c = first_opening c.args.text.now 0 c.in_ok-token.token c.in_ok-token.ensures.found
    c.in-Open.is ∙ c.in-Ok.ensures.found [] []

pub returns-in-Err-clause-fault : goal.returns-in-Err-clause-fault
returns-in-Err-clause-fault c = λ ne. first_opening c.args.text.now 0 c.in_ok-token.token c.in_ok-token.ensures.found c.in-Open.is ∙
    c.in-Err.ensures.fault [] []
