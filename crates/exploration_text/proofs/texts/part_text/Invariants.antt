use Rattle.std.proofs.Common.{ℕ, List, ◌++◌, drop}
use Rattle.exploration_text.specs.ExplorationText.{IsPartText}
use Rattle.exploration_text.proofs.texts.part_text.Given as goal

-- followed by the text of the answers that are left, the text so far is that of all answers
abbrev pub invariant-loop-answer : goal.invariant-loop-answer
invariant-loop-answer l =
    (behind : List ℕ) → IsPartText l.unwanted l.wants (drop l.answer-index l.answers) behind →
    IsPartText l.unwanted l.wants l.answers (l.text.items ++ behind)
