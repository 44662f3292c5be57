use Rattle.std.proofs.Common.{◌≡◌, map, take}
use Rattle.every_outcome.specs.Places.{kept_report, with_says}
use Rattle.every_outcome.proofs.says.reports_of.Given as goal

-- the reports so far
abbrev pub invariant-loop-fiber : goal.invariant-loop-fiber
invariant-loop-fiber l = l.reports.items ≡ map (kept_report (with_says l.search)) (take l.fiber-index l.fibers)
