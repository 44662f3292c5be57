use Rattle.every_schedule.proofs.RefValues.{got_same, got_value}
use Rattle.model_runs.proofs.held.value_of.Goals as goal

pub returns-clause-value : goal.returns-clause-value
returns-clause-value c = got_value c.args.registry.now c.get.new.self c.args.number c.get.result c.get.ensures.made

pub returns-clause-same : goal.returns-clause-same
returns-clause-same c = got_same c.args.registry.now c.get.new.self c.args.number c.get.result c.get.ensures.made
