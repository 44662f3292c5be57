use Rattle.std.proofs.Common.{◌≡◌, ◌∙◌, ap, arith}
use Rattle.std.specs.List.{slice_get}
use Rattle.every_schedule.specs.{Places.Kept, Reduced.hundred}
use Rattle.every_schedule.proofs.Chosen.{chosen_rests}
use Rattle.every_schedule.proofs.reduced_worlds.ReducedWorldsWorlds.born.Goals as goal

pub returns-clause-rests : goal.returns-clause-rests
returns-clause-rests c = λ w at f past.
    let places : c.self.inside.worlds.places ≡ c.args.self.now.places = ap (λ (x : Kept). x.places) c.self.view_is in
    let many = c.born_at.ensures.born w (ap (λ l. slice_get l c.args.world) places ∙ at) in
    chosen_rests hundred w f (omega arith)
