use Rattle.std.proofs.Common.{rules}
use Rattle.text_io.proofs.telling.tell_fault.Goals as goal

pub returns-clause-told : goal.returns-clause-told
returns-clause-told g c = search rules
