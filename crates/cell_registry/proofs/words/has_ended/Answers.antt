use Rattle.std.proofs.Common.{sym, ap, ◌∙◌, eqb}
use Rattle.cell_registry.proofs.Replies.{control-phase, ended_phase}
use Rattle.cell_registry.proofs.words.has_ended.Goals as goal

pub returns : goal.returns
returns c d range e = ap (λ n. eqb n 2) (sym (control-phase _ d (c.unpack.ensures.inverse _ range e))) ∙ ended_phase d.stage
