use Rattle.std.{proofs.{Common.{◌≡◌, ◌<◌, ◌∙◌, Some, ap, length, sym}, lemmas.Option.slice_get-get_or}, specs.List.slice_get}
use Rattle.model_runs.{specs.declared.result.Search.Search, proofs.Decisions.decided_by}
use Rattle.model_runs.proofs.run.decided_by_answers.Goals as goal

pub returns-in-Some-get : goal.returns-in-Some-get
returns-in-Some-get c =
    let searches = c.args.searches.now in
    let n = c.in-Some.number in
    let s = c.in-Some-get.search.now in
    let within : n < length searches = c.in-Some-get.ensures.lookup.3.0 in
    let there : slice_get searches n ≡ Some s = slice_get-get_or searches n s within ∙ ap (λ (y : Search). Some y) (sym c.in-Some-get.ensures.lookup.1) in
    record {
      decided = decided_by c.args.source.now c.args.claim.now searches n s c.claim_result.result there c.requires.answers c.claim_result.ensures.fit
          c.claim_result.ensures.claim c.claim_result.ensures.search;
    }
