use Rattle.derived_ops.specs.{Expansion.code_of, Reading.source_of}
use Rattle.model_runs.proofs.Searches.{right_reports}
use Rattle.model_runs.proofs.searching.search_reports.Goals as goal

pub returns : goal.returns
returns g c =
    let told = c.search_of-search.ensures in
    right_reports (code_of (source_of c.args.prepared.now.program)) c.args.plan.limits c.in_ok-found.found.answers _ c.in_ok-named.named.answers.items
    c.in_ok-found.found.complete c.in_ok-named.named.whole c.search_of-search.result c.in_ok-found.ensures.all c.in_ok-found.ensures.each
    c.as_slice.ensures told.marked told.complete told.whole told.answers c.in_ok-named.ensures.each c.in_ok-named.ensures.all
