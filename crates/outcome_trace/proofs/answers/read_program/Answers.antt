use Rattle.std.proofs.Common.{rules}
use Rattle.outcome_trace.proofs.answers.read_program.Goals as goal

pub returns-in-Err-program_of-clause-refused : goal.returns-in-Err-program_of-clause-refused
returns-in-Err-program_of-clause-refused c = search rules
