use Rattle.std.proofs.Common.{rules}
use Rattle.claim_answers.proofs.answering.with_lines.Goals as goal

pub returns-clause-status : goal.returns-clause-status
returns-clause-status c = search rules
