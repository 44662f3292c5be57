use Rattle.std.proofs.Common.{rules}
use Rattle.model_terms.proofs.translation.is_term.Goals as goal

pub returns-in-Err : goal.returns-in-Err
returns-in-Err c = search rules
