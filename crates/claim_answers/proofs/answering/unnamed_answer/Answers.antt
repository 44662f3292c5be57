use Rattle.std.proofs.Common.{refl}
use Rattle.claim_answers.proofs.answering.unnamed_answer.Goals as goal

pub returns : goal.returns
returns c = record {
  name = c.args.name.now;
  fault = c.args.fault;
  note_is = c.in_ok-note.ensures;
  nothing = c.new.ensures.items;
  status_is = refl;
}
