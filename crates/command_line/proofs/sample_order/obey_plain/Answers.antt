use Rattle.std.proofs.Common.{false, true}
use Rattle.command_line.proofs.NotedEnds.{noted_ends, sample_as_ends}
use Rattle.command_line.proofs.sample_order.obey_plain.Goals as goal

pub returns-then-json-clause-ends : goal.returns-then-json-clause-ends
returns-then-json-clause-ends g c = noted_ends _ _ _ false _ _ _ (sample_as_ends true c.args.order) c.obey_noted.ensures

pub returns-else-json-clause-ends : goal.returns-else-json-clause-ends
returns-else-json-clause-ends g c = noted_ends _ _ _ false _ _ _ (sample_as_ends false c.args.order) c.obey_noted-else-json.ensures

pub returns-then-json-clause-obeyed : goal.returns-then-json-clause-obeyed
returns-then-json-clause-obeyed g c = rw c.if-json.true c.obey_noted.ensures

pub returns-else-json-clause-obeyed : goal.returns-else-json-clause-obeyed
returns-else-json-clause-obeyed g c = rw c.if-json.false c.obey_noted-else-json.ensures
