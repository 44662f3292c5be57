use Rattle.std.proofs.Common.{◌≡◌, false, map, take}
use Rattle.outcome_answers.specs.OutcomesShown.{shown_answer}
use Rattle.outcome_answers.proofs.shown.all_answers.Given as goal

-- the answers so far
abbrev pub invariant-loop-answer : goal.invariant-loop-answer
invariant-loop-answer l = l.shown.items ≡ map (shown_answer false) (take l.answer-index l.answers)
