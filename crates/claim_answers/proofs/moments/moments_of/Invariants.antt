use Rattle.std.proofs.Common.{◌≡◌, map, take}
use Rattle.claim_answers.specs.Claims.{all_set}
use Rattle.claim_answers.proofs.moments.moments_of.Given as goal

-- the words for the claims so far
abbrev pub invariant-loop-sought : goal.invariant-loop-sought
invariant-loop-sought l = l.moments.items ≡ map all_set (take l.sought-index l.soughts)
