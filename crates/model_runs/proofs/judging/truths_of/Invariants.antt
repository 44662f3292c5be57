use Rattle.std.proofs.Common.{◌≡◌, map, take}
use Rattle.model_claims.specs.Conditions.{truth_in}
use Rattle.model_runs.proofs.judging.truths_of.Given as goal

-- the truths of the claim at the answers so far
abbrev pub invariant-loop-answer : goal.invariant-loop-answer
invariant-loop-answer l = l.truths.items ≡ map (λ a. truth_in l.source l.claim a.seen) (take l.answer-index l.answers)
