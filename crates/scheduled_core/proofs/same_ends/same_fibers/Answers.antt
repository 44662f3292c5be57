use Rattle.std.proofs.Common.{arith}
use Rattle.scheduled_core.proofs.SameReports.{lists_apart}
use Rattle.scheduled_core.proofs.same_ends.same_fibers.Goals as goal

pub returns-then-not-same_fiber-clause-other : goal.returns-then-not-same_fiber-clause-other
returns-then-not-same_fiber-clause-other c = λ is.
    lists_apart c.args.one.now c.args.other.now c.loop-index.index c.index-one-index.result c.index-other-index.result
    (omega arith) (omega arith) c.index-one-index.is c.index-other-index.is (c.same_fiber.ensures.other c.if-not-same_fiber.true)
