use Rattle.std.proofs.Common.{Ok, sym, ap, ◌∙◌}
use Rattle.every_outcome.specs.Places.{Place, unmarked_place, with_says}
use Rattle.every_outcome.specs.Private.Reduced.{leapt}
use Rattle.every_outcome.proofs.world.SeenWorld.after.Goals as goal

pub returns-clause-goes : goal.returns-clause-goes
returns-clause-goes g c =
    let says = with_says g.row.SAYS in
    let f = c.args.fiber in
    let stores = c.args.stores in
    ap (λ (p : Place). leapt says stores p f) (sym c.self.view_is)
    ∙ ap (λ (p : Place). leapt says stores (unmarked_place says p) f) (sym c.in_ok-next.ensures)
    ∙ c.in_ok-leap.ensures.goes says
    ∙ ap Ok (sym c.in_ok-new.ensures)
