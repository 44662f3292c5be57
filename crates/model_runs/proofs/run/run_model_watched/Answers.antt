use Rattle.std.proofs.Common.{All, List, sym, subst}
use Rattle.model_runs.specs.{declared.result.{ClaimResult.ClaimResult, Search.Search}, Deciding.IsDecidedIn}
use Rattle.model_runs.proofs.run.run_model_watched.Goals as goal

pub returns-clause-claims : goal.returns-clause-claims
returns-clause-claims g c =
    let source = c.args.source.now in
    let moments = c.in_ok-moments.moments.search in
    let all : All (IsDecidedIn source c.in_ok-searches.searches.items moments) c.in_ok-results.results.items =
    subst (λ (ss : List Search). All (IsDecidedIn source ss moments) c.in_ok-results.results.items) c.as_slice-8.ensures.value
    c.in_ok-results.ensures.decided in
    subst (λ (m : Search). All (IsDecidedIn source c.result_of.result.searches.items m) c.result_of.result.claims.items)
    (sym c.result_of.ensures.moments)
    (subst (λ (ss : List Search). All (IsDecidedIn source ss moments) c.result_of.result.claims.items) (sym c.result_of.ensures.searches)
    (subst (λ (cs : List ClaimResult). All (IsDecidedIn source c.in_ok-searches.searches.items moments) cs) (sym c.result_of.ensures.claims) all))
