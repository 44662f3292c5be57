use Rattle.std.{proofs.{Common.{◌≡◌, ◌<◌, ◌∙◌, Some, ap, length, sym}, lemmas.Option.slice_get-get_or}, specs.List.slice_get}
use Rattle.model_runs.{specs.declared.result.Search.Search, proofs.Decisions.decided_at}
use Rattle.model_runs.proofs.run.decided_at_moments.Goals as goal

pub returns-in-Some-get : goal.returns-in-Some-get
returns-in-Some-get c =
    let searches = c.args.searches.now in
    let n = c.in-Some.at in
    let s = c.in-Some-get.ends.now in
    let within : n < length searches = c.in-Some-get.ensures.lookup.3.0 in
    let there : slice_get searches n ≡ Some s = slice_get-get_or searches n s within ∙ ap (λ (y : Search). Some y) (sym c.in-Some-get.ensures.lookup.1) in
    record {
      decided = decided_at c.args.claim.now c.args.number searches n s c.args.moments.now c.moment_result.result there c.requires.moment
          c.requires.right c.moment_result.ensures.moment c.moment_result.ensures.search;
    }
