use Rattle.std.proofs.Common.{arith}
use Rattle.scheduled_core.proofs.SameReports.{maps_apart}
use Rattle.every_outcome.specs.Places.{marks_of}
use Rattle.every_outcome.proofs.shape.have_same_marks.Goals as goal

pub returns-then-not-has_marks_of-clause-no : goal.returns-then-not-has_marks_of-clause-no
returns-then-not-has_marks_of-clause-no c = λ is.
    maps_apart marks_of c.args.one.now c.args.other.now c.loop-index.index c.index-one-index.result c.index-other-index.result
    (omega arith) (omega arith) c.index-one-index.is c.index-other-index.is (c.has_marks_of.ensures.no c.if-not-has_marks_of.true)
