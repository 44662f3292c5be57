use Rattle.std.proofs.Common.{◌≡◌, drop}
use Rattle.exploration_text.specs.ExplorationText.{has_failure}
use Rattle.exploration_text.proofs.findings.first_failure.Given as goal

abbrev pub invariant-loop-answer : goal.invariant-loop-answer
invariant-loop-answer l = has_failure l.wants (drop l.answer-index l.answers) ≡ has_failure l.wants l.answers
