use Rattle.std.proofs.Common.{List, false, sym, subst}
use Rattle.world_search.specs.declared.claims.Met.{Met}
use Rattle.model_runs.{specs.Moments.AreMet, proofs.Looks.more_met}
use Rattle.model_runs.proofs.looking.with_drawn.Goals as goal

pub returns : goal.returns
returns c = λ code k wanted found drawn.
    subst (λ (ms : List Met). AreMet code k wanted false ms) (sym c.in_ok-append.ensures.items)
    (more_met code k wanted c.args.found.met.items c.args.drawn.items found.each drawn)
