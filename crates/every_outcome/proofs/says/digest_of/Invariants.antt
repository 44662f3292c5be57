use Rattle.std.{proofs.Common.{◌≡◌, take}, specs.List.fold}
use Rattle.every_schedule.specs.Digests.{with_report}
use Rattle.every_outcome.specs.Places.{kept_report, with_says}
use Rattle.every_outcome.proofs.says.digest_of.Given as goal

-- the digest of the reports so far
abbrev pub invariant-loop-fiber : goal.invariant-loop-fiber
invariant-loop-fiber l = l.digest ≡ fold (λ d g. with_report d (kept_report (with_says l.search) g)) 1 (take l.fiber-index l.fibers)
