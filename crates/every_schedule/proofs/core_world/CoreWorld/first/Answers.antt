use Rattle.std.proofs.Common.{◌≡◌, sym, ap, subst}
use Rattle.cell_registry.specs.{Cells.{Cells, opening}, Plain.PlainView}
use Rattle.scheduled_core.specs.Fitting.{AllFit, world_of}
use Rattle.every_schedule.proofs.core_world.CoreWorld.first.Goals as goal

pub invariant_of-result : goal.invariant_of-result
invariant_of-result c =
    let opened : c.in_ok-registry.registry.state ≡ opening c.args.limits = ap (λ (r : PlainView). r.state) c.in_ok-registry.ensures.opening in
    subst (λ (s : Cells). AllFit (world_of c.in_ok-fibers.fibers.items s)) (sym opened) (c.in_ok-fibers.ensures.fits c.args.limits c.requires)
