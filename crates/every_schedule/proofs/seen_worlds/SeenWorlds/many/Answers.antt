use Rattle.std.proofs.Common.{◌≡◌, length, map, sym, ap, ◌∙◌, arith}
use Rattle.std.specs.Prelude.{Some}
use Rattle.std.specs.List.{slice_get}
use Rattle.std.proofs.lemmas.Grind.{common_steps}
use Rattle.std.proofs.lemmas.Option.{gets}
use Rattle.world_search.proofs.Lists.{get_low}
use Rattle.every_schedule.specs.Claims.{View}
use Rattle.every_schedule.specs.Private.Seen.{KeptViews, view_of}
use Rattle.every_schedule.proofs.SeenRows.{view_at, view_is}
use Rattle.every_schedule.proofs.seen_worlds.SeenWorlds.many.Goals as goal

pub born_at-requires : goal.born_at-requires
born_at-requires c =
    let s = c.self.inside in
    let m = c.index-row.result.now in
    let row : slice_get s.rows.items.items c.args.world ≡ Some m = grind (arith, common_steps, gets) in
    let low = c.self.invariant c.args.world m row in
    let number = c.world-number.ensures in
    omega arith

pub returns-clause-born : goal.returns-clause-born
returns-clause-born c = λ v at.
    let s = c.self.inside in
    let places = s.worlds.places in
    let rows = s.rows.items.items in
    let m = c.index-row.result.now in
    let row : slice_get rows c.args.world ≡ Some m = grind (arith, common_steps, gets) in
    let views : map (view_of places) rows ≡ c.args.self.now.views = ap (λ (x : KeptViews). x.views) c.self.view_is in
    let low = c.self.invariant c.args.world m row in
    let p = get_low places m.world low in
    let here : slice_get places c.world-number.result ≡ Some p.0 = ap (slice_get places) c.world-number.ensures ∙ p.1 in
    let is : view_of places m ≡ v = view_at places rows c.args.world m v row (ap (λ l. slice_get l c.args.world) views ∙ at) in
    c.born_at.ensures.born p.0 here ∙ ap (λ (x : View). length x.place.world.fibers) (sym (view_is places m p.0 p.1) ∙ is)
