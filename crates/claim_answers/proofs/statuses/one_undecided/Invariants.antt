use Rattle.std.proofs.Common.{◌≡◌, drop}
use Rattle.claim_answers.specs.Verdicts.{one_undecided}
use Rattle.claim_answers.proofs.statuses.one_undecided.Given as goal

-- the verdicts that are left decide whether one is undecided
abbrev pub invariant-loop-verdict : goal.invariant-loop-verdict
invariant-loop-verdict l = one_undecided (drop l.verdict-index l.verdicts) ≡ one_undecided l.verdicts
