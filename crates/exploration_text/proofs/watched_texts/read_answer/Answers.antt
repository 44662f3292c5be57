use Rattle.outcome_trace.specs.Answers.{refuses}
use Rattle.exploration_text.proofs.NotedLemmas.{noted_runs}
use Rattle.exploration_text.proofs.watched_texts.read_answer.Goals as goal

pub returns-in-Ok : goal.returns-in-Ok
returns-in-Ok g c =
    noted_runs g.W.Refusals.RefusalForm.refuses (g.W.WatchedOrder.finds c.args.order.now (g.V.Watcher.can_stop c.args.watcher.now))
    c.args.text.now c.in-Ok.program c.answer_watched.result c.in-Ok.ensures.program c.in-Ok.ensures.limits c.answer_watched.ensures

pub returns-in_ok-refused_answer-in-Err : goal.returns-in_ok-refused_answer-in-Err
returns-in_ok-refused_answer-in-Err g c =
    refuses c.args.text.now c.in_ok-refused_answer-in-Err.field-0.text.items c.in_ok-refused_answer-in-Err.field-0.status
    (c.in_ok-refused_answer-in-Err.ensures, c.new.ensures.items)
