use Rattle.std.proofs.Common.{◌≡◌, take}
use Rattle.model_runs.specs.Moments.{soughts}
use Rattle.model_runs.proofs.looking.soughts.Given as goal

-- the conditions that decide the claims so far
abbrev pub invariant-loop-claim : goal.invariant-loop-claim
invariant-loop-claim l = l.wanted.items ≡ soughts (take l.claim-index l.claims)
