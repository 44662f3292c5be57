use Rattle.claim_words.specs.Private.Steps.{AreHeads}
use Rattle.claim_words.proofs.heads.head_number.Given as goal

-- the heads so far
abbrev pub invariant-loop : goal.invariant-loop
invariant-loop l = AreHeads l.text l.rest l.number
