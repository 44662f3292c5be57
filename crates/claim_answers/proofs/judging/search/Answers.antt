use Rattle.claim_answers.proofs.judging.search.Goals as goal

pub returns-in-Ok : goal.returns-in-Ok
returns-in-Ok c = record {
  each = c.in-Ok.ensures.met;
  none = c.in-Ok.ensures.unmet;
  numbers = c.in-Ok.ensures.numbers;
}
