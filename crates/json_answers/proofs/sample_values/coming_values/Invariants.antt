use Rattle.std.proofs.Common.{List, ◌++◌, drop, map}
use Rattle.serde_json.specs.{Data.Data, View.view}
use Rattle.json_answers.specs.SampleData.{AreComingsData}
use Rattle.json_answers.proofs.sample_values.coming_values.Given as goal

-- followed by the values of the ends that are left, the values so far are those of all ends
abbrev pub invariant-loop-coming : goal.invariant-loop-coming
invariant-loop-coming l =
    (behind : List Data) → AreComingsData l.wants (drop l.coming-index l.comings) behind →
    AreComingsData l.wants l.comings (map view l.values.items ++ behind)
