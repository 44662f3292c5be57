use Rattle.std.proofs.Common.{◌≡◌, List, sym, ap, ap₂, subst}
use Rattle.fiber_frames.specs.Fiber.{Fiber}
use Rattle.every_outcome.specs.Places.{Place, unmarked_world}
use Rattle.cell_registry.specs.{Cells.{Cells, opening}, Plain.PlainView}
use Rattle.scheduled_core.specs.Fitting.{AllFit, world_of}
use Rattle.every_outcome.proofs.core_world.CoreWorld.first.Goals as goal

pub returns-clause-fits : goal.returns-clause-fits
returns-clause-fits c =
    let opened : c.in_ok-registry.registry.state ≡ opening c.args.limits = ap (λ (r : PlainView). r.state) c.in_ok-registry.ensures.opening in
    subst (λ (s : Cells). AllFit (world_of c.in_ok-fibers.fibers.items s)) (sym opened) (c.in_ok-fibers.ensures.fits c.args.limits c.requires)

pub returns-clause-first : goal.returns-clause-first
returns-clause-first c = λ says.
    ap₂ (λ (r : PlainView) (gs : List Fiber). let p : Place = record { limits = r.limits; world = unmarked_world says (world_of gs r.state) } in p)
    c.in_ok-registry.ensures.opening c.in_ok-fibers.ensures.first
