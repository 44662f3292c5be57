use Rattle.std.proofs.Common.{false, true}
use Rattle.std.specs.Prelude.{is_some}
use Rattle.command_line.proofs.NotedEnds.{beside_ends}
use Rattle.command_line.proofs.SaidEnds.{say_ends}
use Rattle.command_line.proofs.say_order.obey_say.Goals as goal

pub returns-then-json-clause-ends : goal.returns-then-json-clause-ends
returns-then-json-clause-ends g c =
    let e = c.args.saying in
    beside_ends _ _ e.beside _ _ _ (say_ends true e.order (is_some e.seconds)) c.obey_search.ensures

pub returns-else-json-clause-ends : goal.returns-else-json-clause-ends
returns-else-json-clause-ends g c =
    let e = c.args.saying in
    beside_ends _ _ e.beside _ _ _ (say_ends false e.order (is_some e.seconds)) c.obey_search-else-json.ensures

pub returns-then-json-clause-obeyed : goal.returns-then-json-clause-obeyed
returns-then-json-clause-obeyed g c = rw c.if-json.true c.obey_search.ensures

pub returns-else-json-clause-obeyed : goal.returns-else-json-clause-obeyed
returns-else-json-clause-obeyed g c = rw c.if-json.false c.obey_search-else-json.ensures
