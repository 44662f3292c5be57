use Rattle.std.proofs.Common.{take}
use Rattle.derived_ops.specs.Expansion.{code_of}
use Rattle.derived_ops.specs.Reading.{source_of}
use Rattle.sampled_schedules.specs.Claims.{LooksThrough}
use Rattle.claim_answers.specs.Claims.{Pairwise}
use Rattle.claim_answers.specs.Drawn.{IsSeen}
use Rattle.claim_answers.proofs.sampling.see.Given as goal

-- the verdicts so far
abbrev pub invariant-loop-number : goal.invariant-loop-number
invariant-loop-number l =
    (looked : LooksThrough (code_of (source_of l.program)) l.order.limits l.order.entries l.order.times l.soughts l.met.items) →
    Pairwise (IsSeen (code_of (source_of l.program)) l.order.limits looked.drawn) (take l.number l.soughts) l.verdicts.items
