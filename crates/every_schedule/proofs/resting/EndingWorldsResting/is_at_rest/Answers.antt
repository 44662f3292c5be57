use Rattle.std.proofs.Common.{sym, ap, ap₂, ◌∙◌, subst}
use Rattle.cell_registry.specs.Plain.{PlainView}
use Rattle.scheduled_core.specs.{Finals.IsFinal, Fitting.{AllFit, world_of}}
use Rattle.every_schedule.specs.Places.{Place}
use Rattle.every_schedule.proofs.resting.EndingWorldsResting.is_at_rest.Goals as goal

pub are_done-requires : goal.are_done-requires
are_done-requires c =
    subst AllFit (sym (ap₂ world_of c.fibers.ensures.fibers (ap (λ (r : PlainView). r.state) c.registry.ensures))) c.fibers.ensures.fits

pub returns : goal.returns
returns c = λ yes p at.
    let here = ap₂ world_of c.fibers.ensures.fibers (ap (λ (r : PlainView). r.state) c.registry.ensures) in
    subst IsFinal (here ∙ ap (λ (q : Place). q.world) (c.in_ok-it.ensures p at)) (c.are_done.ensures yes)
