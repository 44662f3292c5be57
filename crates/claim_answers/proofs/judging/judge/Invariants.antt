use Rattle.std.proofs.Common.{take}
use Rattle.derived_ops.specs.Expansion.{code_of}
use Rattle.derived_ops.specs.Reading.{source_of}
use Rattle.claim_answers.specs.Claims.{IsDecided, Pairwise}
use Rattle.claim_answers.proofs.judging.judge.Given as goal

-- the verdicts so far
abbrev pub invariant-loop-number : goal.invariant-loop-number
invariant-loop-number l = Pairwise (IsDecided (code_of (source_of l.program)) l.fn.limits) (take l.number l.soughts) l.verdicts.items
