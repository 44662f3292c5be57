use Rattle.std.proofs.Common.{◌≡◌, Ok, ap, ap₂, subst}
use Rattle.every_schedule.specs.Claims.{View, noted, seeing, stored_by, viewed}
use Rattle.every_outcome.specs.Private.Reduced.{leapt}
use Rattle.std.specs.Prelude.{false}
use Rattle.every_outcome.proofs.claim_worlds.ClaimWorld.born.Goals as goal

pub returns-clause-rests : goal.returns-clause-rests
returns-clause-rests c = λ f past.
    let seen = c.self.inside.seen.items in
    subst (λ (v : View). viewed (leapt false false) v f ≡ Ok v) c.self.view_is
    (ap₂ seeing (ap (λ o. noted seen (stored_by o)) (c.born.ensures.none f past)) (c.born.ensures.rests false f past))
