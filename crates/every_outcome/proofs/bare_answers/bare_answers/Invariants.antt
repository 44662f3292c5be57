use Rattle.std.proofs.Common.{◌≡◌, map, take}
use Rattle.every_outcome.specs.Private.Bare.{outcome_answer}
use Rattle.every_outcome.proofs.bare_answers.bare_answers.Given as goal

-- the answers so far
abbrev pub invariant-loop-answer : goal.invariant-loop-answer
invariant-loop-answer l = l.bare.items ≡ map outcome_answer (take l.answer-index l.answers)
