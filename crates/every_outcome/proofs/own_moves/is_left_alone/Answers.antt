use Rattle.std.proofs.Common.{sym, ◌∙◌}
use Rattle.every_schedule.proofs.Alone.{alone_kept}
use Rattle.every_outcome.proofs.own_moves.is_left_alone.Goals as goal

pub returns : goal.returns
returns c = c.is_kept.ensures ∙ sym (alone_kept c.args.world.now.world c.requires.fits c.args.fiber)
