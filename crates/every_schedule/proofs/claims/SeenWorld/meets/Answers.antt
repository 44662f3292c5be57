use Rattle.std.proofs.Common.{sym, ap, ap₂, subst}
use Rattle.cell_registry.specs.Plain.{PlainView}
use Rattle.scheduled_core.specs.Fitting.{AllFit, world_of}
use Rattle.every_schedule.proofs.claims.SeenWorld.meets.Goals as goal

pub standing_of-requires : goal.standing_of-requires
standing_of-requires c =
    subst AllFit (sym (ap₂ world_of c.fibers.ensures.fibers (ap (λ (r : PlainView). r.state) c.registry.ensures))) c.fibers.ensures.fits
