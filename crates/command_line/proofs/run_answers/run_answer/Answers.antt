use Rattle.command_line.proofs.WorkerLemmas.{fault_answers, report_answers}
use Rattle.command_line.proofs.run_answers.run_answer.Goals as goal

pub returns-in-Ok : goal.returns-in-Ok
returns-in-Ok g c =
    let ran = c.in-Ok.ensures in
    report_answers c.args.program c.args.options c.in-Ok.report c.report_answer.result ran.spent ran.lawful c.report_answer.ensures.line
    c.report_answer.ensures.status

pub returns-in-Err : goal.returns-in-Err
returns-in-Err g c =
    fault_answers c.args.program c.args.options c.in-Err.error c.fault_answer.result c.in-Err.ensures.full c.in-Err.ensures.faults c.fault_answer.ensures.line
    c.fault_answer.ensures.status
