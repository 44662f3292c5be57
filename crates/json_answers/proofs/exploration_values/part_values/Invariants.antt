use Rattle.std.proofs.Common.{List, ◌++◌, drop, map}
use Rattle.serde_json.specs.{Data.Data, View.view}
use Rattle.json_answers.specs.ExplorationData.{IsPartData}
use Rattle.json_answers.proofs.exploration_values.part_values.Given as goal

-- followed by the values of the answers that are left, the values so far are those of all answers
abbrev pub invariant-loop-answer : goal.invariant-loop-answer
invariant-loop-answer l =
    (behind : List Data) → IsPartData l.unwanted l.wants (drop l.answer-index l.answers) behind →
    IsPartData l.unwanted l.wants l.answers (map view l.values.items ++ behind)
