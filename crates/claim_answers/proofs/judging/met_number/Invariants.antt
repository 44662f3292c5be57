use Rattle.std.proofs.Common.{◌≡◌}
use Rattle.std.specs.List.{AllWithin}
use Rattle.claim_answers.proofs.judging.met_number.Given as goal

-- none so far is the claim
abbrev pub invariant-loop-number : goal.invariant-loop-number
invariant-loop-number l = AllWithin (λ m. m.claim ≡ l.claim → ⊥) l.met 0 l.number
