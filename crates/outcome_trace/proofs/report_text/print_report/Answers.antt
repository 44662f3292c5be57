use Rattle.std.proofs.Common.{rules}
use Rattle.outcome_trace.proofs.report_text.print_report.Goals as goal

pub returns-clause-text : goal.returns-clause-text
returns-clause-text g c = search rules
