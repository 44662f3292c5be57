use Rattle.std.{proofs.Common.{◌≡◌, false}, specs.List.AllWithin}
use Rattle.claim_verdicts.specs.Judging.{decides}
use Rattle.claim_verdicts.proofs.judging.first_decisive.Given as goal

abbrev pub invariant-loop-at : goal.invariant-loop-at
invariant-loop-at l = AllWithin (λ t. decides l.rule t ≡ false) l.truths 0 l.at
