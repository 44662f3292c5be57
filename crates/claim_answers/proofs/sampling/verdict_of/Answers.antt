use Rattle.std.proofs.Common.{ap, ◌∙◌}
use Rattle.std.proofs.lemmas.Option.{get_or_from_slice_get}
use Rattle.world_search.specs.declared.claims.Met.{Met}
use Rattle.claim_answers.proofs.sampling.verdict_of.Goals as goal

pub returns-in_ok-schedule-in-Some : goal.returns-in_ok-schedule-in-Some
returns-in_ok-schedule-in-Some c =
    let f = c.in-Some.ensures.some in
    let same = get_or_from_slice_get c.args.met.now c.in-Some.at f.0 c.index-met-at.result f.1 in
    (c.in-Some.at, f.0, f.1, f.2, c.in_ok-schedule-in-Some.ensures.items ∙ c.as_slice.ensures.value ∙ ap (λ (x : Met). x.schedule.items) same)
