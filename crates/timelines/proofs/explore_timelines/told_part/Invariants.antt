use Rattle.std.proofs.Common.{ℕ, List, ◌++◌, drop}
use Rattle.timelines.specs.ExploreTimelines.{IsToldPart}
use Rattle.timelines.proofs.explore_timelines.told_part.Given as goal

-- the text so far and the text of the answers that are left are the text of all answers
abbrev pub invariant-loop-answer : goal.invariant-loop-answer
invariant-loop-answer l =
    (behind : List ℕ) → IsToldPart l.unwanted l.wants (drop l.answer-index l.answers) behind →
    IsToldPart l.unwanted l.wants l.answers (l.text.items ++ behind)
