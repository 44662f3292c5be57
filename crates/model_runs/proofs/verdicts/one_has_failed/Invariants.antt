use Rattle.std.proofs.Common.{◌≡◌, drop}
use Rattle.model_runs.specs.Verdicts.{one_has_failed}
use Rattle.model_runs.proofs.verdicts.one_has_failed.Given as goal

-- no claim so far has failed
abbrev pub invariant-loop-claim : goal.invariant-loop-claim
invariant-loop-claim l = one_has_failed (drop l.claim-index l.claims) ≡ one_has_failed l.claims
