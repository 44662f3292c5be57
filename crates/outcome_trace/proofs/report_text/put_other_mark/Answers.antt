use Rattle.std.proofs.Common.{rules}
use Rattle.outcome_trace.proofs.report_text.put_other_mark.Goals as goal

pub returns-in-PollOut-clause-text : goal.returns-in-PollOut-clause-text
returns-in-PollOut-clause-text c = search rules
