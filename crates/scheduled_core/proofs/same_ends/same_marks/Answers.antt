use Rattle.scheduled_core.proofs.SameReports.{marks_other, marks_same}
use Rattle.scheduled_core.proofs.same_ends.same_marks.Goals as goal

pub returns-clause-same : goal.returns-clause-same
returns-clause-same c = λ is. marks_same c.args.one.now c.args.other.now c.as_slice.result.now c.as_slice-2.result.now c.eq.result c.as_slice.ensures
    c.as_slice-2.ensures c.eq.ensures is

pub returns-clause-other : goal.returns-clause-other
returns-clause-other c = λ is. marks_other c.args.one.now c.args.other.now c.as_slice.result.now c.as_slice-2.result.now c.eq.result c.as_slice.ensures
    c.as_slice-2.ensures c.eq.ensures is
