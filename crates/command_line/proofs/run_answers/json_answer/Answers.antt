use Rattle.command_line.proofs.WorkerLemmas.{fault_value_answers, value_answers}
use Rattle.command_line.proofs.run_answers.json_answer.Goals as goal

pub returns-in-Ok : goal.returns-in-Ok
returns-in-Ok g c =
    let ran = c.in-Ok.ensures in
    value_answers c.args.program c.args.options c.in-Ok.report c.report_json_answer.result ran.spent ran.lawful c.report_json_answer.ensures.line
    c.report_json_answer.ensures.status

pub returns-in-Err : goal.returns-in-Err
returns-in-Err g c =
    fault_value_answers c.args.program c.args.options c.in-Err.error c.fault_json_answer.result c.in-Err.ensures.full c.in-Err.ensures.faults
    c.fault_json_answer.ensures.line c.fault_json_answer.ensures.status
