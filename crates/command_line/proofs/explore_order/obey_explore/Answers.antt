use Rattle.std.specs.Prelude.{is_some}
use Rattle.command_words.specs.declared.exploring.ExploreForm.TheVariants as explored
use Rattle.command_line.proofs.NotedEnds.{beside_ends, explored_ends}
use Rattle.command_line.proofs.explore_order.obey_explore.Goals as goal

pub returns-in-Report-clause-ends : goal.returns-in-Report-clause-ends
returns-in-Report-clause-ends g c =
    let e = c.args.exploring in
    beside_ends _ _ e.beside _ _ _ (explored_ends explored.Report e.order (is_some e.seconds)) c.obey_search.ensures

pub returns-in-Timeline-clause-ends : goal.returns-in-Timeline-clause-ends
returns-in-Timeline-clause-ends g c =
    let e = c.args.exploring in
    beside_ends _ _ e.beside _ _ _ (explored_ends explored.Timeline e.order (is_some e.seconds)) c.obey_search-in-Timeline.ensures

pub returns-in-Json-clause-ends : goal.returns-in-Json-clause-ends
returns-in-Json-clause-ends g c =
    let e = c.args.exploring in
    beside_ends _ _ e.beside _ _ _ (explored_ends explored.Json e.order (is_some e.seconds)) c.obey_search-in-Json.ensures

pub returns-in-Report-clause-obeyed : goal.returns-in-Report-clause-obeyed
returns-in-Report-clause-obeyed g c = rw c.in-Report.is c.obey_search.ensures

pub returns-in-Timeline-clause-obeyed : goal.returns-in-Timeline-clause-obeyed
returns-in-Timeline-clause-obeyed g c = rw c.in-Timeline.is c.obey_search-in-Timeline.ensures

pub returns-in-Json-clause-obeyed : goal.returns-in-Json-clause-obeyed
returns-in-Json-clause-obeyed g c = rw c.in-Json.is c.obey_search-in-Json.ensures
