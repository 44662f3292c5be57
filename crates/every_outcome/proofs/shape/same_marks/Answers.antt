use Rattle.scheduled_core.proofs.SameReports.{marks_decide}
use Rattle.std.proofs.lemmas.Bool.Decides.{not_from_Decides}
use Rattle.every_outcome.proofs.shape.same_marks.Goals as goal

pub returns-clause-yes : goal.returns-clause-yes
returns-clause-yes c = λ is. (marks_decide c.args.one.now c.args.other.now c.eq.result c.eq.ensures).0 is

pub returns-clause-no : goal.returns-clause-no
returns-clause-no c = λ is. not_from_Decides c.eq.result (marks_decide c.args.one.now c.args.other.now c.eq.result c.eq.ensures) is
