use Rattle.std.proofs.Common.{take}
use Rattle.claim_answers.specs.Claims.{IsSought, Pairwise}
use Rattle.claim_answers.proofs.judging.soughts_of.Given as goal

-- what decides the claims so far
abbrev pub invariant-loop-one : goal.invariant-loop-one
invariant-loop-one l = Pairwise (IsSought l.text) (take l.one-index l.asked) l.soughts.items
