use Rattle.model_runs.proofs.looking.search_with.Goals as goal

pub returns-then-may_leave_marks : goal.returns-then-may_leave_marks
returns-then-may_leave_marks g c = record {
  each = c.in_ok-found.ensures.met;
  none = λ complete i words at unfound schedule. c.in_ok-found.ensures.unmet complete i words at unfound c.args.plan.limits.count schedule;
}

pub returns : goal.returns
returns g c = record {
  each = c.in_ok-found-2.ensures.met;
  none = c.in_ok-found-2.ensures.unmet;
}
