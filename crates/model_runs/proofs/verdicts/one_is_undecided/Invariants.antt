use Rattle.std.proofs.Common.{◌≡◌, drop}
use Rattle.model_runs.specs.Verdicts.{one_is_undecided}
use Rattle.model_runs.proofs.verdicts.one_is_undecided.Given as goal

-- no claim so far is undecided
abbrev pub invariant-loop-claim : goal.invariant-loop-claim
invariant-loop-claim l = one_is_undecided (drop l.claim-index l.claims) ≡ one_is_undecided l.claims
