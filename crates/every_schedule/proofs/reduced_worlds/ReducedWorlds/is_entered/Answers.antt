use Rattle.std.proofs.Common.{◌≡◌, ◌<◌, List, length, sym, ap, ◌∙◌, subst}
use Rattle.std.specs.List.{slice_get}
use Rattle.world_search.proofs.Lists.{get_low}
use Rattle.every_schedule.specs.Places.{Kept, Place}
use Rattle.every_schedule.proofs.reduced_worlds.ReducedWorlds.is_entered.Goals as goal

pub invariant_of-self-2 : goal.invariant_of-self-2
invariant_of-self-2 c =
    let places : c.self.inside.worlds.places ≡ c.args.self.now.places = ap (λ (x : Kept). x.places) c.self.view_is in
    let b = get_low c.self.inside.worlds.places c.args.world (subst (λ (l : List Place). c.args.world < length l) (sym places) c.requires) in
    (b.0, ap (λ (l : List Place). slice_get l c.args.world) c.pick.ensures.places ∙ b.1, c.in_ok-set.ensures.picked b.0 b.1)
