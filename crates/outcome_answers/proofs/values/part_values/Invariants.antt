use Rattle.std.proofs.Common.{List, ◌++◌, drop, map}
use Rattle.serde_json.specs.{Data.Data, View.view}
use Rattle.outcome_answers.specs.OutcomesData.{IsShownPart}
use Rattle.outcome_answers.proofs.values.part_values.Given as goal

-- these values and those of the answers that are left are the values of all answers
abbrev pub invariant-loop-answer : goal.invariant-loop-answer
invariant-loop-answer l =
    (behind : List Data) → IsShownPart l.says l.unwanted l.wants (drop l.answer-index l.answers) behind →
    IsShownPart l.says l.unwanted l.wants l.answers (map view l.values.items ++ behind)
