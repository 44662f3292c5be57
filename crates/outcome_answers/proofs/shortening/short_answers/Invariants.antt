use Rattle.std.proofs.Common.{◌≡◌, take}
use Rattle.outcome_answers.specs.SaysFound.{short_in}
use Rattle.outcome_answers.proofs.shortening.short_answers.Given as goal

-- the short answers so far
abbrev pub invariant-loop-answer : goal.invariant-loop-answer
invariant-loop-answer l = l.short.items ≡ short_in l.entries (take l.answer-index l.answers)
