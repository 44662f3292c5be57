use Rattle.std.proofs.Common.{rules}
use Rattle.model_terms.proofs.source.read_source.Goals as goal

pub returns-in-Ok-clause-file : goal.returns-in-Ok-clause-file
returns-in-Ok-clause-file c = search rules
