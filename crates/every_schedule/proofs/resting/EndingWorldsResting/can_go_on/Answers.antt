use Rattle.std.proofs.Common.{sym, ap, ap₂, ◌∙◌, subst}
use Rattle.cell_registry.specs.Plain.{PlainView}
use Rattle.scheduled_core.specs.{Finals.IsFinal, Fitting.{AllFit, world_of}}
use Rattle.every_schedule.specs.Places.{Place}
use Rattle.every_schedule.proofs.resting.EndingWorldsResting.can_go_on.Goals as goal

pub some_goes_on-requires : goal.some_goes_on-requires
some_goes_on-requires c =
    subst AllFit (sym (ap₂ world_of c.fibers.ensures.fibers (ap (λ (r : PlainView). r.state) c.registry.ensures))) c.fibers.ensures.fits

pub returns : goal.returns
returns c = λ yes p at final.
    let here = ap₂ world_of c.fibers.ensures.fibers (ap (λ (r : PlainView). r.state) c.registry.ensures) in
    c.some_goes_on.ensures yes (subst IsFinal (sym (here ∙ ap (λ (q : Place). q.world) (c.in_ok-it.ensures p at))) final)
