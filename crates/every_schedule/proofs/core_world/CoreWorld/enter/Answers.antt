use Rattle.std.proofs.Common.{sym, ap, subst}
use Rattle.cell_registry.specs.{Cells.Cells, Plain.PlainView}
use Rattle.scheduled_core.specs.Fitting.{AllFit, world_of}
use Rattle.every_schedule.proofs.Bare.{fits_bare}
use Rattle.every_schedule.proofs.core_world.CoreWorld.enter.Goals as goal

pub invariant_of-result-2 : goal.invariant_of-result-2
invariant_of-result-2 c =
    let forgot = ap (λ (r : PlainView). r.state) c.forget_waits.ensures.forgets in
    subst (λ (s : Cells). AllFit (world_of c.enter.new.fibers.items s)) (sym forgot)
    (fits_bare (world_of c.enter.new.fibers.items c.enter.new.registry.state) c.in_ok-enter.ensures.fits)
