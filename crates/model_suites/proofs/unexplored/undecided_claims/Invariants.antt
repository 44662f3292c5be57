use Rattle.std.proofs.Common.{◌≡◌}
use Rattle.std.specs.List.{All}
use Rattle.claim_verdicts.specs.declared.judging.Verdict.TheVariants.{Undecided}
use Rattle.model_suites.proofs.unexplored.undecided_claims.Given as goal

-- each claim so far is undecided
abbrev pub invariant-loop-claim : goal.invariant-loop-claim
invariant-loop-claim l = All (λ claim. claim.verdict ≡ Undecided) l.results.items
