use Rattle.std.proofs.Common.{◌∙◌}
use Rattle.fiber_poll.proofs.Outcomes.{broken_asked}
use Rattle.run_ends.proofs.finishing.is_broken.Goals as goal

pub returns-in_default : goal.returns-in_default
returns-in_default c b = absurd (c.in_default.not-Broken (c.ask.ensures.ask ∙ broken_asked c.args.config.now b))
