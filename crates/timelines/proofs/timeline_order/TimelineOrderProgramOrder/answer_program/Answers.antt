use Rattle.std.proofs.Common.{sym}
use Rattle.timelines.proofs.Told.{told_answers}
use Rattle.timelines.proofs.timeline_order.TimelineOrderProgramOrder.answer_program.Goals as goal

pub returns : goal.returns
returns c =
    told_answers c.args.program.now c.args.self.now.schedule.now c.args.self.now.limits c.in_ok-front.front c.in_ok-told.told.end _ c.with_rows.result
    (sym c.in_ok-told.ensures.told.end) c.in_ok-front.ensures.text c.in_ok-front.ensures.status c.with_rows.ensures.text c.with_rows.ensures.status
