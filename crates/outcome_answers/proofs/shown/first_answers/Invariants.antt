use Rattle.outcome_answers.proofs.Firsts.{SoFar}
use Rattle.outcome_answers.proofs.shown.first_answers.Given as goal

-- one answer for each outcome so far
abbrev pub invariant-loop-answer : goal.invariant-loop-answer
invariant-loop-answer l = SoFar l.answers l.answer-index l.shown.items
