use Rattle.std.proofs.Common.{◌≡◌, map, take}
use Rattle.scheduled_core.specs.declared.report.FiberReport.{FiberReport}
use Rattle.every_outcome.proofs.bare_answers.outcomes_of.Given as goal

-- the outcomes so far
abbrev pub invariant-loop-fiber : goal.invariant-loop-fiber
invariant-loop-fiber l = l.outcomes.items ≡ map (λ (f : FiberReport). f.outcome) (take l.fiber-index l.fibers)
