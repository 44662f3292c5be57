use Rattle.std.proofs.Common.{take}
use Rattle.claim_answers.specs.Unchecked.{IsUnchecked}
use Rattle.claim_answers.specs.Verdicts.{AreLines}
use Rattle.claim_answers.proofs.moments.unchecked_lines.Given as goal

-- the lines so far
abbrev pub invariant-loop-at : goal.invariant-loop-at
invariant-loop-at l = AreLines (IsUnchecked l.among) (take l.at l.asked) (take l.at l.moments) l.text.items
