use Rattle.std.proofs.Common.{◌≡◌, rules, sym, ◌∙◌}
use Rattle.fiber_frames.specs.Fiber.{outcome_of}
use Rattle.scheduled_core.proofs.SameReports.{marks_decide, reports_alike, reports_apart}
use Rattle.scheduled_core.proofs.reports.ended_alike.Goals as goal

pub returns-then-eq-clause-same : goal.returns-then-eq-clause-same
returns-then-eq-clause-same c = λ is.
    let marks : c.trace.result.now ≡ c.trace-then-eq.result.now =
    (marks_decide c.trace.result.now c.trace-then-eq.result.now c.eq-then-eq.result c.eq-then-eq.ensures).0 is in
    let outcomes : outcome_of c.args.one.now ≡ outcome_of c.args.other.now = search rules in
    reports_alike c.args.one.now c.args.other.now outcomes (sym c.trace.ensures.marks ∙ marks ∙ c.trace-then-eq.ensures.marks)

pub returns-then-eq-clause-other : goal.returns-then-eq-clause-other
returns-then-eq-clause-other c = λ is.
    reports_apart c.args.one.now c.args.other.now c.trace.result.now c.trace-then-eq.result.now c.eq-then-eq.result
    c.trace.ensures.marks c.trace-then-eq.ensures.marks c.eq-then-eq.ensures is
