use Rattle.std.proofs.lemmas.Nat.{and_mask, one_shl}
use Rattle.control_word.proofs.control.field.Goals as goal

pub returns : goal.returns
returns c = rw (one_shl c.args.width 64 c.requires.width) (and_mask _ c.args.width)
