use Rattle.derived_ops.specs.{Expansion.code_of, Reading.source_of}
use Rattle.ending_answers.proofs.Endings.{ending_is, ending_short}
use Rattle.ending_answers.proofs.decided.ending_of.Goals as goal

pub returns-clause-ending : goal.returns-clause-ending
returns-clause-ending g c =
    let code = code_of (source_of c.args.program.now) in
    let k = c.args.order.now.limits in
    ending_short code k c.in-Ok.ending c.shortened.result c.shortened.ensures.same
    (ending_is code k c.in-Ok.ending c.in-Ok.ensures.ends c.in-Ok.ensures.repeats)
