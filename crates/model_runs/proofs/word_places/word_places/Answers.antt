use Rattle.std.proofs.Common.{◌≡◌, sym, ap, subst}
use Rattle.cell_registry.specs.{Cells.{Cells, opening}, Plain.PlainView}
use Rattle.scheduled_core.specs.Fitting.{AllFit, world_of}
use Rattle.model_runs.proofs.word_places.word_places.Goals as goal

pub places_along-requires : goal.places_along-requires
places_along-requires c =
    let opened : opening c.args.limits ≡ c.in_ok-registry.registry.state = ap (λ (r : PlainView). r.state) (sym c.in_ok-registry.ensures.opening) in
    record {
      fits = subst (λ (cells : Cells). AllFit (world_of c.in_ok-fibers.fibers.items cells)) opened
          (c.in_ok-fibers.ensures.fits c.args.limits c.requires.limits);
    }
