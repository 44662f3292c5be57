use Rattle.std.proofs.Common.{◌≢◌, arith, rules}
use Rattle.scheduled_core.proofs.SameReports.{maps_apart}
use Rattle.fiber_frames.specs.Fiber.{outcome_of}
use Rattle.every_outcome.proofs.world.same_ends.Goals as goal

pub returns-then-ne-clause-no : goal.returns-then-ne-clause-no
returns-then-ne-clause-no c = λ is same.
    let apart : outcome_of c.index-one-index.result ≢ outcome_of c.index-other-index.result = search rules in
    maps_apart outcome_of c.args.one.now c.args.other.now c.loop-index.index c.index-one-index.result c.index-other-index.result
    (omega arith) (omega arith) c.index-one-index.is c.index-other-index.is apart same
