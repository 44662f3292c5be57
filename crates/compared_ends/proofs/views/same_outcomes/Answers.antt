use Rattle.std.proofs.Common.{◌≢◌, ap, arith, rules}
use Rattle.scheduled_core.proofs.SameReports.{maps_apart}
use Rattle.compared_ends.specs.Views.{View, outcome_seen}
use Rattle.compared_ends.proofs.views.same_outcomes.Goals as goal

pub returns-then-ne-clause-other : goal.returns-then-ne-clause-other
returns-then-ne-clause-other c = λ is same.
    let apart : outcome_seen c.index-one-index.result ≢ outcome_seen c.index-other-index.result = search rules in
    maps_apart outcome_seen c.args.one.now c.args.other.now c.loop-index.index c.index-one-index.result c.index-other-index.result
    (omega arith) (omega arith) c.index-one-index.is c.index-other-index.is apart (ap (λ (v : View). v.outcomes) same)
