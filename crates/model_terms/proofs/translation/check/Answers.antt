use Rattle.std.proofs.Common.{rules}
use Rattle.model_terms.proofs.translation.check.Goals as goal

pub returns-clause-binders : goal.returns-clause-binders
returns-clause-binders c = search rules
