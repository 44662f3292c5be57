use Rattle.std.proofs.Common.{rules}
use Rattle.scheduled_core.proofs.wish.Wish.of.Goals as goal

pub returns-in-Unmask : goal.returns-in-Unmask
returns-in-Unmask c = search rules
