use Rattle.std.proofs.Common.{rules}
use Rattle.effect_term.proofs.program.Program.starts.Goals as goal

pub returns : goal.returns
returns c = search rules
