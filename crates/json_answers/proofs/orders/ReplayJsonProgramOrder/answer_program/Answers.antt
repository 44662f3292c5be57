use Rattle.outcome_trace.proofs.ReplayLemmas.{fault_is_core, report_is_core}
use Rattle.json_answers.proofs.AnswerLemmas.{fault_answers, report_answers}
use Rattle.json_answers.proofs.orders.ReplayJsonProgramOrder.answer_program.Goals as goal

pub returns-in-Ok : goal.returns-in-Ok
returns-in-Ok c =
    let self = c.args.self.now in
    let core = report_is_core c.args.program.now self.limits self.schedule.now c.replay.result c.in-Ok.report c.in-Ok.is c.replay.ensures.core in
    report_answers c.args.program.now self.schedule.now self.limits c.in-Ok.report c.report_json_answer.result core
    c.report_json_answer.ensures.line c.report_json_answer.ensures.status

pub returns-in-Err : goal.returns-in-Err
returns-in-Err c =
    let self = c.args.self.now in
    let core = fault_is_core c.args.program.now self.limits self.schedule.now c.replay.result c.in-Err.error c.in-Err.is c.replay.ensures.core in
    fault_answers c.args.program.now self.schedule.now self.limits c.in-Err.error c.fault_answer.result core c.fault_answer.ensures.line
    c.fault_answer.ensures.status c.fault_answer.ensures.memory
