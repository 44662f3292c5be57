use Rattle.outcome_trace.proofs.AnswerLemmas.{program_runs, refusal_runs}
use Rattle.outcome_trace.proofs.program_orders.AnyTextOrder.answer.Goals as goal

pub returns-in-Ok : goal.returns-in-Ok
returns-in-Ok g c =
    program_runs g.P.Refusals.RefusalForm.refuses (g.P.ProgramOrder.comes c.args.self.now) c.args.text.now c.in-Ok.program c.answer_program.result
    c.in-Ok.ensures.program c.in-Ok.ensures.limits c.answer_program.ensures

pub returns-in-Err : goal.returns-in-Err
returns-in-Err g c =
    refusal_runs g.P.Refusals.RefusalForm.refuses (g.P.ProgramOrder.comes c.args.self.now) c.args.text.now c.refused_answer.result
    c.refused_answer.ensures
