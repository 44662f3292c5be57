use Rattle.derived_ops.specs.{Expansion.code_of, Reading.source_of}
use Rattle.model_runs.proofs.Searches.{right_outcomes}
use Rattle.model_runs.proofs.outcomes.search_outcomes.Goals as goal

pub returns : goal.returns
returns g c =
    let told = c.search_of-search.ensures in
    right_outcomes (code_of (source_of c.args.prepared.now.program)) c.args.plan.limits c.in_ok-explored.explored c.shortened.result c.in_ok-found.found
    c.args.plan.entries c.shortened.ensures.answers c.shortened.ensures.complete c.in_ok-found.ensures.answers c.in_ok-explored.ensures.all
    c.in_ok-explored.ensures.each _ c.in_ok-named.named.answers.items c.in_ok-named.named.whole c.search_of-search.result c.requires.count
    c.in_ok-found.ensures.complete c.as_slice.ensures.value told.marked told.complete told.whole told.answers c.in_ok-named.ensures.each
    c.in_ok-named.ensures.all
