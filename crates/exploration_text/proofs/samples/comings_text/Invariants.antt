use Rattle.std.proofs.Common.{ℕ, List, ◌++◌, drop}
use Rattle.exploration_text.specs.SampleText.{AreComingsText}
use Rattle.exploration_text.proofs.samples.comings_text.Given as goal

-- followed by the text of the answers that are left, the text so far is that of all answers
abbrev pub invariant-loop-coming : goal.invariant-loop-coming
invariant-loop-coming l =
    (behind : List ℕ) → AreComingsText l.wants (drop l.coming-index l.comings) behind → AreComingsText l.wants l.comings (l.text.items ++ behind)
