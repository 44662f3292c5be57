use Rattle.std.proofs.Common.{rules}
use Rattle.fiber_poll.proofs.Beginning.{first_fits, first_task}
use Rattle.fiber_poll.proofs.opening.first.Goals as goal

pub new-requires-2-clause-fits : goal.new-requires-2-clause-fits
new-requires-2-clause-fits c =
    first_fits c.args.registry.now c.args.code.now c.args.pass c.in_ok-config.config c.in_ok-config.ensures.named c.requires c.in_ok-config.ensures.state

pub returns-clause-of : goal.returns-clause-of
returns-clause-of c = first_task c.args.registry.now c.args.code.now c.new-2.result c.args.pass c.in_ok-config.config c.args.moves c.requires
    c.in_ok-config.ensures.state c.new-2.ensures

pub returns-clause-task : goal.returns-clause-task
returns-clause-task c = search rules
