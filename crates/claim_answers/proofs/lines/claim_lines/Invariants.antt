use Rattle.std.proofs.Common.{take}
use Rattle.claim_answers.specs.Verdicts.{AreLines, IsLine}
use Rattle.claim_answers.proofs.lines.claim_lines.Given as goal

-- the lines so far
abbrev pub invariant-loop-at : goal.invariant-loop-at
invariant-loop-at l = AreLines (IsLine l.form) (take l.at l.asked) (take l.at l.verdicts) l.text.items
