use Rattle.command_line.proofs.RecordLemmas.{recorded_answers}
use Rattle.command_line.proofs.record_answers.record_answer.Goals as goal

pub returns : goal.returns
returns g c =
    let ran = c.run_spelled-end.ensures in
    recorded_answers c.args.program c.args.options c.run_spelled-end.result.end c.run_spelled-end.result.schedule c.end_told.result ran.spent
    ran.lawful ran.full ran.faults ran.recorded c.end_told.ensures.text c.end_told.ensures.status
