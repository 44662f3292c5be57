use Rattle.std.proofs.Common.{rules}
use Rattle.text_io.proofs.schedule.is_plain.Goals as goal

pub returns-in-len1-up : goal.returns-in-len1-up
returns-in-len1-up c = search rules
