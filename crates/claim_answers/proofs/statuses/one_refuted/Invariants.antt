use Rattle.std.proofs.Common.{◌≡◌, drop}
use Rattle.claim_answers.specs.Verdicts.{one_refuted}
use Rattle.claim_answers.proofs.statuses.one_refuted.Given as goal

-- the claims that are left decide whether one is refuted
abbrev pub invariant-loop-at : goal.invariant-loop-at
invariant-loop-at l = one_refuted (drop l.at l.asked) (drop l.at l.verdicts) ≡ one_refuted l.asked l.verdicts
