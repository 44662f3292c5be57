use Rattle.std.proofs.Common.{◌<◌, sym, ap, ◌∙◌, subst}
use Rattle.fiber_frames.specs.Uses.{used_place}
use Rattle.scheduled_core.specs.Fitting.{AllFit}
use Rattle.every_schedule.specs.Places.{Place}
use Rattle.every_schedule.specs.Reduced.{is_kept, next_of}
use Rattle.every_schedule.proofs.Standing.{same_on}
use Rattle.every_schedule.proofs.own_moves.is_kept.Goals as goal

pub returns-then-not-rival_spares-clause-kept : goal.returns-then-not-rival_spares-clause-kept
returns-then-not-rival_spares-clause-kept c = sym (c.rival_spares.ensures.uses c.if-not-rival_spares.true)

pub all_spare-requires-clause-given : goal.all_spare-requires-clause-given
all_spare-requires-clause-given c =
    subst (λ (p : Place). c.args.number < next_of (used_place c.args.what) p.world.cells) (sym c.rival_spares.ensures.same.here) c.requires.given

pub all_spare-requires-clause-fits : goal.all_spare-requires-clause-fits
all_spare-requires-clause-fits c = subst (λ (p : Place). AllFit p.world) (sym c.rival_spares.ensures.same.here) c.requires.fits

pub returns-clause-same : goal.returns-clause-same
returns-clause-same c =
    same_on c.args.current.now c.rival_spares.new.current c.all_spare.new.current c.rival_spares.ensures.same c.all_spare.ensures.same

pub returns-clause-kept : goal.returns-clause-kept
returns-clause-kept c =
    c.all_spare.ensures.kept ∙ ap (λ (p : Place). is_kept c.args.what p.world c.args.by c.args.number) c.rival_spares.ensures.same.here
