use Rattle.std.proofs.Common.{◌≡◌, map, take}
use Rattle.outcome_answers.specs.OutcomesShown.{bare}
use Rattle.outcome_answers.proofs.shown.bare_report.Given as goal

-- the reports so far
abbrev pub invariant-loop-outcome : goal.invariant-loop-outcome
invariant-loop-outcome l = l.fibers.items ≡ map bare (take l.outcome-index l.outcomes)
