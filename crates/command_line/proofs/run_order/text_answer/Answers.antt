use Rattle.command_line.specs.Runs.{comes_as, refused_as}
use Rattle.outcome_trace.proofs.AnswerLemmas.{program_runs, refusal_runs}
use Rattle.command_line.proofs.run_order.text_answer.Goals as goal

pub returns-in-Ok : goal.returns-in-Ok
returns-in-Ok g c =
    program_runs (refused_as c.args.form) (comes_as c.args.form c.args.options) c.args.text.now c.in-Ok.program c.program_answer.result
    c.in-Ok.ensures.program c.in-Ok.ensures.limits c.program_answer.ensures

pub returns-in-Err : goal.returns-in-Err
returns-in-Err g c =
    refusal_runs (refused_as c.args.form) (comes_as c.args.form c.args.options) c.args.text.now c.refused_answer.result c.refused_answer.ensures
