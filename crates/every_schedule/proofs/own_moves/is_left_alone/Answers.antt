use Rattle.std.proofs.Common.{sym, ◌∙◌}
use Rattle.every_schedule.specs.Private.Standing.{here}
use Rattle.every_schedule.proofs.Alone.{alone_kept}
use Rattle.every_schedule.proofs.own_moves.is_left_alone.Goals as goal

pub returns-clause-alone : goal.returns-clause-alone
returns-clause-alone c = c.is_kept.ensures.kept ∙ sym (alone_kept (here c.args.current.now).world c.requires.fits c.args.fiber)
