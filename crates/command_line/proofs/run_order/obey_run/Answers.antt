use Rattle.command_line.proofs.EndLemmas.{explained_run_ends, ran_ends, told_ends}
use Rattle.command_line.proofs.run_order.obey_run.Goals as goal

pub returns-then-running-clause-ends : goal.returns-then-running-clause-ends
returns-then-running-clause-ends g c = explained_run_ends c.explain_run.ensures

pub returns-else-running-clause-ends : goal.returns-else-running-clause-ends
returns-else-running-clause-ends g c = told_ends (ran_ends c.args.running.form c.args.running.options) c.answer_run.ensures
