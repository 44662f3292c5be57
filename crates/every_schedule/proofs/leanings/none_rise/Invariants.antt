use Rattle.std.{proofs.Common.{◌≡◌, ℕ, ◌<◌, List, Some, false}, specs.List.slice_get}
use Rattle.every_schedule.specs.declared.claims.ClaimWord.{ClaimWord}
use Rattle.every_schedule.specs.Leanings.{leaning_of}
use Rattle.every_schedule.proofs.leanings.none_rise.Given as goal

-- so it is of the claims so far
abbrev pub invariant-loop-claim : goal.invariant-loop-claim
invariant-loop-claim l =
    (k : ℕ) (words : List ClaimWord) → k < l.claim-index → slice_get l.claims k ≡ Some words → (leaning_of words).rises ≡ false
