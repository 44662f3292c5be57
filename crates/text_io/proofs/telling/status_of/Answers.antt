use Rattle.std.proofs.Common.{rules}
use Rattle.text_io.proofs.telling.status_of.Goals as goal

pub returns-in-Err-clause-told : goal.returns-in-Err-clause-told
returns-in-Err-clause-told g c = search rules
