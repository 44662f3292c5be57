use Rattle.std.proofs.Common.{◌≡◌, ◌∙◌, ap, arith}
use Rattle.std.specs.List.{slice_get}
use Rattle.every_schedule.specs.Private.Seen.{KeptViews}
use Rattle.every_schedule.proofs.SeenRows.{strict_rests}
use Rattle.every_schedule.proofs.seen_worlds.StrictWorldsWorlds.born.Goals as goal

pub returns-clause-rests : goal.returns-clause-rests
returns-clause-rests c = λ w at f past.
    let views : c.self.inside.worlds.views ≡ c.args.self.now.views = ap (λ (x : KeptViews). x.views) c.self.view_is in
    let born = c.many.ensures.born w (ap (λ l. slice_get l c.args.world) views ∙ at) in
    strict_rests w f (omega arith)
