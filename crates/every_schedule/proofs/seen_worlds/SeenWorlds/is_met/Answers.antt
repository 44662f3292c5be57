use Rattle.std.proofs.Common.{◌≡◌, ℕ, List, map, sym, ap, ap₂, ◌∙◌, arith}
use Rattle.std.specs.Prelude.{Some}
use Rattle.std.specs.List.{slice_get}
use Rattle.std.proofs.lemmas.Grind.{common_steps}
use Rattle.std.proofs.lemmas.Option.{gets}
use Rattle.std.proofs.lemmas.Result.{IfOk-weaker}
use Rattle.world_search.proofs.Lists.{get_low}
use Rattle.every_schedule.specs.Claims.{View}
use Rattle.every_schedule.specs.Places.{Place}
use Rattle.every_schedule.specs.Private.Stopping.{meets_here}
use Rattle.every_schedule.specs.Private.Seen.{KeptViews, view_of}
use Rattle.every_schedule.proofs.SeenRows.{view_at, view_is}
use Rattle.every_schedule.proofs.seen_worlds.SeenWorlds.is_met.Goals as goal

pub world-requires : goal.world-requires
world-requires c =
    let s = c.self.inside in
    let m = c.index-row.result.now in
    let row : slice_get s.rows.items.items c.args.world ≡ Some m = grind (arith, common_steps, gets) in
    let low = c.self.invariant c.args.world m row in
    let number = c.world-number.ensures in
    omega arith

pub returns : goal.returns
returns c =
    let s = c.self.inside in
    let places = s.worlds.places in
    let rows = s.rows.items.items in
    let m = c.index-row.result.now in
    let row : slice_get rows c.args.world ≡ Some m = grind (arith, common_steps, gets) in
    let views : map (view_of places) rows ≡ c.args.self.now.views = ap (λ (x : KeptViews). x.views) c.self.view_is in
    let low = c.self.invariant c.args.world m row in
    let p = get_low places m.world low in
    let here : slice_get places c.world-number.result ≡ Some p.0 = ap (slice_get places) c.world-number.ensures ∙ p.1 in
    let place : c.in_ok-core.core ≡ p.0 = c.in_ok-core.ensures p.0 here in
    let seen : c.in_ok-seen.seen.items ≡ m.seen = c.in_ok-seen.ensures.items ∙ c.seen.ensures in
    IfOk-weaker c.meets.result _ _ (λ it is. λ w at.
    is ∙ ap (λ (v : View). meets_here v c.args.claim.now) (c.new-here.ensures ∙
    ap₂ (λ (q : Place) (l : List ℕ). let v : View = record { place = q; seen = l } in v) place seen ∙
    sym (view_is places m p.0 p.1) ∙ view_at places rows c.args.world m w row (ap (λ l. slice_get l c.args.world) views ∙ at))) c.meets.ensures
