use Rattle.std.proofs.Common.{rules}
use Rattle.scheduled_core.proofs.report.FiberReports.new.Goals as goal

pub returns : goal.returns
returns c = search rules
