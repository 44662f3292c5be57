use Rattle.std.proofs.Common.{take}
use Rattle.claim_answers.specs.Drawn.{IsSeenLine}
use Rattle.claim_answers.specs.Verdicts.{AreLines}
use Rattle.claim_answers.proofs.seen_lines.seen_lines.Given as goal

-- the lines so far
abbrev pub invariant-loop-at : goal.invariant-loop-at
invariant-loop-at l = AreLines (IsSeenLine l.json l.times) (take l.at l.asked) (take l.at l.verdicts) l.text.items
