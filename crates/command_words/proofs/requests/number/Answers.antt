use Rattle.std.proofs.Common.{rules}
use Rattle.command_words.proofs.requests.number.Goals as goal

pub returns-in-Ok-clause-spelled : goal.returns-in-Ok-clause-spelled
returns-in-Ok-clause-spelled c = search rules
