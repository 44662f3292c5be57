use Rattle.std.proofs.Common.{arith}
use Rattle.scheduled_core.{proofs.SameReports.maps_apart, specs.Core.fiber_report}
use Rattle.scheduled_core.proofs.reports.same_report.Goals as goal

pub returns-then-not-ended_alike-clause-other : goal.returns-then-not-ended_alike-clause-other
returns-then-not-ended_alike-clause-other c = λ is.
    maps_apart fiber_report c.args.one.now c.args.other.now c.loop-index.index c.index-one-index.result c.index-other-index.result
    (omega arith) (omega arith) c.index-one-index.is c.index-other-index.is (c.ended_alike.ensures.other c.if-not-ended_alike.true)
