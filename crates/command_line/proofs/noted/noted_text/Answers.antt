use Rattle.outcome_trace.specs.Answers.{refuses}
use Rattle.exploration_text.proofs.NotedLemmas.{noted_runs}
use Rattle.command_line.proofs.noted.noted_text.Goals as goal

pub returns-in-Ok : goal.returns-in-Ok
returns-in-Ok g c =
    noted_runs g.A.Refusals.RefusalForm.refuses (g.A.NotedOrder.notes c.args.order.now) c.args.text.now c.in-Ok.program c.noted_answer.result
    c.in-Ok.ensures.program c.in-Ok.ensures.limits c.noted_answer.ensures

pub returns-in_ok-refused_answer-in-Err : goal.returns-in_ok-refused_answer-in-Err
returns-in_ok-refused_answer-in-Err g c =
    refuses c.args.text.now c.in_ok-refused_answer-in-Err.field-0.text.items c.in_ok-refused_answer-in-Err.field-0.status
    (c.in_ok-refused_answer-in-Err.ensures, c.new.ensures.items)
