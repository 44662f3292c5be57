use Rattle.std.{proofs.Common.◌≡◌, specs.List.AllWithin}
use Rattle.model_runs.proofs.moments.met_number.Given as goal

-- no element so far is the claim
abbrev pub invariant-loop-number : goal.invariant-loop-number
invariant-loop-number l = AllWithin (λ m. m.claim ≡ l.claim → ⊥) l.met 0 l.number
