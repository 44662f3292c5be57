use Rattle.std.proofs.Common.{arith}
use Rattle.json_answers.proofs.Behind.{all_marks, one_mark}
use Rattle.json_answers.proofs.report_values.mark_values.Goals as goal

pub loop-mark-preserved : goal.loop-mark-preserved
loop-mark-preserved c =
    one_mark c.args.marks.now c.loop-mark.mark-index c.mark-item.result c.loop-mark.values.items c.push.new.self.items c.in_ok-value.value
    (omega arith) c.mark-item.is
    c.in_ok-value.ensures c.in_ok-push.ensures.items c.loop-mark.invariant

pub returns : goal.returns
returns c = all_marks c.args.marks.now c.loop-mark.mark-index c.loop-mark.values.items (omega arith) c.loop-mark.invariant
