use Rattle.std.proofs.Common.{sym, subst, List}
use Rattle.world_search.specs.declared.claims.Met.{Met}
use Rattle.world_search.specs.Claims.{IsFound}
use Rattle.every_schedule.proofs.claimed.search_claims.Goals as goal

pub returns-clause-unmet : goal.returns-clause-unmet
returns-clause-unmet g c = λ complete i words at unfound.
    c.in_ok-found.ensures.unmet (c.in_ok-certified.ensures.complete complete) i words at
    (λ f. unfound (subst (λ (l : List Met). IsFound i l) (sym (c.in_ok-certified.ensures.whole complete)) f))
