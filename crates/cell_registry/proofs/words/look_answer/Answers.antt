use Rattle.std.proofs.Common.{sym}
use Rattle.cell_registry.proofs.Replies.{control-cancel}
use Rattle.cell_registry.proofs.words.look_answer.Goals as goal

pub returns : goal.returns
returns c d range e = sym (control-cancel _ d (c.unpack.ensures.inverse _ range e))
