use Rattle.std.proofs.Common.{◌≡◌, ◌≤◌, length, map, sym, ap, ap₂, ◌∙◌, subst, arith}
use Rattle.std.specs.Prelude.{Some, max}
use Rattle.std.specs.List.{slice_get}
use Rattle.std.proofs.lemmas.Grind.{common_steps}
use Rattle.std.proofs.lemmas.Option.{gets}
use Rattle.std.proofs.lemmas.Result.{IfOk-weaker}
use Rattle.world_search.specs.Landings.{EntersAt, IsNext}
use Rattle.world_search.specs.Lists.{IsMore}
use Rattle.world_search.proofs.Lists.{get_low}
use Rattle.every_schedule.specs.Claims.{View, noted, seeing, stored_by, viewed}
use Rattle.every_schedule.specs.Reduced.{leapt}
use Rattle.every_schedule.specs.Private.Seen.{KeptViews, view_of}
use Rattle.every_schedule.proofs.Entering.{always, next_kept, room_kept}
use Rattle.every_schedule.proofs.SeenRows.{row_lands, rows_there, there_more, view_at, view_is, views_grow}
use Rattle.every_schedule.proofs.seen_worlds.SeenWorlds.made.Goals as goal

pub stored-stored-requires : goal.stored-stored-requires
stored-stored-requires c =
    let s = c.self.inside in
    let m = c.index-row.result.now in
    let row : slice_get s.rows.items.items c.args.world ≡ Some m = grind (arith, common_steps, gets) in
    let low = c.self.invariant c.args.world m row in
    let number = c.world-number.ensures in
    omega arith

pub entry-requires : goal.entry-requires
entry-requires c =
    let s = c.self.inside in
    let m = c.index-row.result.now in
    let row : slice_get s.rows.items.items c.args.world ≡ Some m = grind (arith, common_steps, gets) in
    let low = c.self.invariant c.args.world m row in
    let number = c.world-number.ensures in
    omega arith

pub invariant_of-self : goal.invariant_of-self
invariant_of-self c =
    there_more c.self.inside.worlds.places c.entry.new.self.places c.entry.ensures.worlds c.self.inside.rows.items.items c.self.invariant

pub invariant_of-self-2 : goal.invariant_of-self-2
invariant_of-self-2 c =
    let s = c.self.inside in
    let places = s.worlds.places in
    let places' = c.entry.new.self.places in
    let es = c.entry.new.self.faults in
    let rows = s.rows.items.items in
    let rows' = c.row_met.new.rows.items.items in
    let m = c.index-row.result.now in
    let f = c.args.fiber in
    let seen = c.in_ok-seen.seen.items in
    let row : slice_get rows c.args.world ≡ Some m = grind (arith, common_steps, gets) in
    let views : map (view_of places) rows ≡ c.args.self.now.views = ap (λ (x : KeptViews). x.views) c.self.view_is in
    let low = c.self.invariant c.args.world m row in
    let p = get_low places m.world low in
    let here : slice_get places c.world-number.result ≡ Some p.0 = ap (slice_get places) c.world-number.ensures ∙ p.1 in
    let more = c.entry.ensures.worlds in
    rows_there places places' more rows rows' c.self.invariant seen es (leapt c.args.at_once p.0 f) c.in_ok-came.came
    (c.in_ok-came.ensures.lands p.0 here) c.row_met.ensures.adds

pub returns-clause-worlds : goal.returns-clause-worlds
returns-clause-worlds c =
    let s = c.self.inside in
    let places = s.worlds.places in
    let places' = c.entry.new.self.places in
    let es = c.entry.new.self.faults in
    let rows = s.rows.items.items in
    let rows' = c.row_met.new.rows.items.items in
    let m = c.index-row.result.now in
    let f = c.args.fiber in
    let seen = c.in_ok-seen.seen.items in
    let row : slice_get rows c.args.world ≡ Some m = grind (arith, common_steps, gets) in
    let views : map (view_of places) rows ≡ c.args.self.now.views = ap (λ (x : KeptViews). x.views) c.self.view_is in
    let low = c.self.invariant c.args.world m row in
    let p = get_low places m.world low in
    let here : slice_get places c.world-number.result ≡ Some p.0 = ap (slice_get places) c.world-number.ensures ∙ p.1 in
    let more = c.entry.ensures.worlds in
    always c.row_met.result _ (subst (λ l. IsMore l (map (view_of places') rows')) views
    (views_grow places places' more rows rows' c.self.invariant seen es (leapt c.args.at_once p.0 f) c.in_ok-came.came c.row_met.ensures.adds))

pub returns-clause-faults : goal.returns-clause-faults
returns-clause-faults c =
    let faults = ap (λ (x : KeptViews). x.faults) c.self.view_is in
    always c.row_met.result _ (subst (λ l. IsMore l c.entry.new.self.faults) faults c.in_ok-came.ensures.faults)

pub returns-clause-lands : goal.returns-clause-lands
returns-clause-lands c =
    let s = c.self.inside in
    let places = s.worlds.places in
    let places' = c.entry.new.self.places in
    let es = c.entry.new.self.faults in
    let rows = s.rows.items.items in
    let rows' = c.row_met.new.rows.items.items in
    let m = c.index-row.result.now in
    let f = c.args.fiber in
    let seen = c.in_ok-seen.seen.items in
    let row : slice_get rows c.args.world ≡ Some m = grind (arith, common_steps, gets) in
    let views : map (view_of places) rows ≡ c.args.self.now.views = ap (λ (x : KeptViews). x.views) c.self.view_is in
    let low = c.self.invariant c.args.world m row in
    let p = get_low places m.world low in
    let here : slice_get places c.world-number.result ≡ Some p.0 = ap (slice_get places) c.world-number.ensures ∙ p.1 in
    let more = c.entry.ensures.worlds in
    let set : seen ≡ noted m.seen (stored_by (slice_get p.0.world.fibers f)) =
    c.in_ok-seen.ensures ∙ ap₂ noted c.seen.ensures (c.stored-stored.ensures p.0 here) in
    IfOk-weaker c.row_met.result _ _ (λ it met. λ w at.
    let is : record { place = p.0; seen = m.seen } ≡ w = sym (view_is places m p.0 p.1) ∙
    view_at places rows c.args.world m w row (ap (λ l. slice_get l c.args.world) views ∙ at) in
    subst (EntersAt (map (view_of places') rows') es it)
    (ap (λ l. seeing l (leapt c.args.at_once p.0 f)) set ∙ ap (λ (v : View). viewed (leapt c.args.at_once) v f) is)
    (row_lands places places' more rows rows' c.self.invariant seen es (leapt c.args.at_once p.0 f) c.in_ok-came.came it
    (c.in_ok-came.ensures.lands p.0 here) met)) c.row_met.ensures.met

pub returns-clause-room : goal.returns-clause-room
returns-clause-room c =
    let s = c.self.inside in
    let places = s.worlds.places in
    let places' = c.entry.new.self.places in
    let es = c.entry.new.self.faults in
    let rows = s.rows.items.items in
    let rows' = c.row_met.new.rows.items.items in
    let m = c.index-row.result.now in
    let f = c.args.fiber in
    let seen = c.in_ok-seen.seen.items in
    let row : slice_get rows c.args.world ≡ Some m = grind (arith, common_steps, gets) in
    let views : map (view_of places) rows ≡ c.args.self.now.views = ap (λ (x : KeptViews). x.views) c.self.view_is in
    let low = c.self.invariant c.args.world m row in
    let p = get_low places m.world low in
    let here : slice_get places c.world-number.result ≡ Some p.0 = ap (slice_get places) c.world-number.ensures ∙ p.1 in
    let more = c.entry.ensures.worlds in
    IfOk-weaker c.row_met.result _ _
    (λ it few. subst (λ l. length (map (view_of places') rows') ≤ max c.args.most (length l)) views
    (room_kept (view_of places) (view_of places') rows rows' c.args.most few)) c.row_met.ensures.room

pub returns-clause-next : goal.returns-clause-next
returns-clause-next c =
    let s = c.self.inside in
    let places = s.worlds.places in
    let places' = c.entry.new.self.places in
    let es = c.entry.new.self.faults in
    let rows = s.rows.items.items in
    let rows' = c.row_met.new.rows.items.items in
    let m = c.index-row.result.now in
    let f = c.args.fiber in
    let seen = c.in_ok-seen.seen.items in
    let row : slice_get rows c.args.world ≡ Some m = grind (arith, common_steps, gets) in
    let views : map (view_of places) rows ≡ c.args.self.now.views = ap (λ (x : KeptViews). x.views) c.self.view_is in
    let low = c.self.invariant c.args.world m row in
    let p = get_low places m.world low in
    let here : slice_get places c.world-number.result ≡ Some p.0 = ap (slice_get places) c.world-number.ensures ∙ p.1 in
    let more = c.entry.ensures.worlds in
    IfOk-weaker c.row_met.result _ _
    (λ it next. subst (λ l. IsNext (length l) (length (map (view_of places') rows')) c.args.most it) views
    (next_kept (view_of places) (view_of places') rows rows' c.args.most it next)) c.row_met.ensures.next
