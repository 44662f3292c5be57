use Rattle.std.proofs.Common.{◌≡◌, ap, subst, sym}
use Rattle.cell_registry.specs.Cells.{Cells, opening}
use Rattle.cell_registry.specs.Plain.{PlainView}
use Rattle.scheduled_core.specs.Fitting.{AllFit, world_of}
use Rattle.fiber_tests.proofs.schedules.fibers_after.Goals as goal

pub loop-number-init : goal.loop-number-init
loop-number-init c =
    let limits = c.limits-fibers.result in
    let opened : opening limits ≡ c.in_ok-registry.registry.state = ap (λ (r : PlainView). r.state) (sym c.in_ok-registry.ensures.opening) in
    subst (λ (cells : Cells). AllFit (world_of c.in_ok-fibers.fibers.items cells)) opened (c.in_ok-fibers.ensures.fits limits c.limits-fibers.ensures)
