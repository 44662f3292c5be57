use Rattle.outcome_trace.proofs.ReplayLemmas.{report_is_core, fault_is_core, report_answers, fault_answers}
use Rattle.outcome_trace.proofs.replay_texts.ReplayOrderProgramOrder.answer_program.Goals as goal

pub returns-in-Ok : goal.returns-in-Ok
returns-in-Ok c =
    let self = c.args.self.now in
    let core = report_is_core c.args.program.now self.limits self.schedule.now c.replay.result c.in-Ok.report c.in-Ok.is c.replay.ensures.core in
    report_answers c.args.program.now self.schedule.now self.limits c.in-Ok.report c.report_answer.result core c.report_answer.ensures.line
    c.report_answer.ensures.status

pub returns-in-Err : goal.returns-in-Err
returns-in-Err c =
    let self = c.args.self.now in
    let core = fault_is_core c.args.program.now self.limits self.schedule.now c.replay.result c.in-Err.error c.in-Err.is c.replay.ensures.core in
    fault_answers c.args.program.now self.schedule.now self.limits c.in-Err.error c.fault_answer.result core c.fault_answer.ensures.line
    c.fault_answer.ensures.status c.fault_answer.ensures.memory
