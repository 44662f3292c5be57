use Rattle.std.proofs.Common.{◌≡◌, take}
use Rattle.claim_words.proofs.heads.behind.Given as goal

-- the bytes so far are those of `front`
abbrev pub invariant-loop-at : goal.invariant-loop-at
invariant-loop-at l = take l.at l.text ≡ take l.at l.front
