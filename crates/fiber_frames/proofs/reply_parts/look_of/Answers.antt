use Rattle.std.proofs.Common.{rules}
use Rattle.fiber_frames.proofs.reply_parts.look_of.Goals as goal

pub returns-then-asked : goal.returns-then-asked
returns-then-asked c = search rules
