use Rattle.std.proofs.Common.{ℕ, List, ap₂}
use Rattle.every_schedule.specs.Claims.{View}
use Rattle.every_outcome.specs.Places.{Place}
use Rattle.every_outcome.proofs.claim_worlds.ClaimWorld.first.Goals as goal

pub returns-clause-first : goal.returns-clause-first
returns-clause-first c =
    ap₂ (λ (p : Place) (l : List ℕ). let v : View = record { place = p; seen = l } in v) c.in_ok-world.ensures.first c.new-seen.ensures.items
