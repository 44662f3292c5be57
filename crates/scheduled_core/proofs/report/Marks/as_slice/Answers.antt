use Rattle.std.proofs.Common.{rules}
use Rattle.scheduled_core.proofs.report.Marks.as_slice.Goals as goal

pub returns : goal.returns
returns c = search rules
