use Rattle.std.proofs.Common.{◌≡◌, take}
use Rattle.outcome_answers.proofs.copies.copied_fibers.Given as goal

-- the reports so far are copied
abbrev pub invariant-loop-fiber : goal.invariant-loop-fiber
invariant-loop-fiber l = l.copies.items ≡ take l.fiber-index l.fibers
