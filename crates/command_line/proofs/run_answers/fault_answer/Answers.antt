use Rattle.std.proofs.Common.{rules}
use Rattle.command_line.proofs.run_answers.fault_answer.Goals as goal

pub returns-clause-status : goal.returns-clause-status
returns-clause-status c = search rules
