use Rattle.std.proofs.Common.{◌≡◌, sym, ap, subst}
use Rattle.cell_registry.specs.{Cells.{Cells, opening}, Plain.PlainView}
use Rattle.scheduled_core.specs.Fitting.{AllFit, world_of}
use Rattle.model_runs.proofs.waits.rest_of.Goals as goal

pub enter_all-requires : goal.enter_all-requires
enter_all-requires c =
    let opened : opening c.args.limits ≡ c.in_ok-registry.registry.state = ap (λ (r : PlainView). r.state) (sym c.in_ok-registry.ensures.opening) in
    subst (λ (cells : Cells). AllFit (world_of c.in_ok-fibers.fibers.items cells)) opened (c.in_ok-fibers.ensures.fits c.args.limits c.requires.limits)
