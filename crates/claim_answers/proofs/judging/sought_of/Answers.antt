use Rattle.std.proofs.Common.{◌∙◌}
use Rattle.claim_answers.proofs.judging.sought_of.Goals as goal

pub returns : goal.returns
returns c = record {
  words = c.in_ok-words.words.items;
  numbered = c.in_ok-words.ensures;
  it_is = c.new.ensures ∙ c.in_ok-turn.ensures;
}
