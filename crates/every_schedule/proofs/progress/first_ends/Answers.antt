use Rattle.std.proofs.Common.{arith}
use Rattle.std.proofs.lemmas.Grind.{common_steps}
use Rattle.every_schedule.proofs.Stopping.{first_at}
use Rattle.std.proofs.Common.{◌<◌, ◌∙◌, length}
use Rattle.every_schedule.proofs.progress.first_ends.Goals as goal

pub returns : goal.returns
returns c =
    let low : 0 < length c.args.fibers.now = grind (arith, common_steps) in
    c.ends.ensures ∙ first_at c.args.fibers.now c.index-fibers-0.result low c.index-fibers-0.is
