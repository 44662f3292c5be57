use Rattle.std.proofs.Common.{List, length, sym, subst, arith}
use Rattle.world_search.specs.{declared.graphs.Node.Node, Private.{Claimed.{AreListedMet, AreLooked}, Paths.AreChained, Shapes.shape}}
use Rattle.world_search.proofs.{Claiming.{all_brief, all_few, all_led, all_unmet}, Lists.more_get, Paths.are_chained}
use Rattle.world_search.proofs.claims.search_claims.Goals as goal

pub list_met-requires-clause-chained : goal.list_met-requires-clause-chained
list_met-requires-clause-chained g c =
    subst (λ (l : List Node). AreChained l) (sym c.as_slice.ensures.value)
    (are_chained g.W.Worlds.step g.W.Worlds.report g.W.Worlds.most_born c.limits_of.result.entries (g.W.Worlds.worlds c.explore.new.worlds)
    (g.W.Worlds.faults c.explore.new.worlds) (shape c.explore.new.graph) c.in_ok-closing.ensures.fits)

pub returns-clause-met : goal.returns-clause-met
returns-clause-met g c = λ first at.
    let ws = g.W.Worlds.worlds c.explore.new.worlds in
    let told = c.in_ok-closing.ensures in
    let listed = subst (λ (l : List Node). AreListedMet g.W.Claims.meets ws l c.args.claims.now c.in_ok-listed.listed.met.items) c.as_slice.ensures.value
    c.in_ok-listed.ensures.listed in
    all_led g.W.Worlds.step g.W.Worlds.report g.W.Worlds.most_born c.limits_of.result.entries ws (g.W.Worlds.faults c.explore.new.worlds)
    (shape c.explore.new.graph) told.fits g.W.Claims.meets c.args.claims.now c.in_ok-listed.listed.met.items listed
    first (more_get (g.W.Worlds.worlds c.args.worlds.now) ws 0 first told.grows.worlds at)

pub returns-clause-unmet : goal.returns-clause-unmet
returns-clause-unmet g c = λ complete first at.
    let ws = g.W.Worlds.worlds c.explore.new.worlds in
    let told = c.in_ok-closing.ensures in
    let looked = subst (λ (l : List Node). AreLooked g.W.Claims.meets ws (length l) c.args.claims.now (length c.args.claims.now) c.in_ok-listed.listed.met.items)
    c.as_slice.ensures.value (c.in_ok-listed.ensures.looked (c.both.ensures.other complete)) in
    all_unmet g.W.Worlds.step g.W.Worlds.report g.W.Worlds.most_born c.limits_of.result.entries ws (g.W.Worlds.faults c.explore.new.worlds)
    (shape c.explore.new.graph) told.fits g.W.Claims.meets c.args.claims.now c.in_ok-listed.listed.met.items (told.done (c.is_whole.ensures.yes (c.both.ensures.one complete))) looked
    first (more_get (g.W.Worlds.worlds c.args.worlds.now) ws 0 first told.grows.worlds at)

pub returns-clause-numbers : goal.returns-clause-numbers
returns-clause-numbers g c =
    let ws = g.W.Worlds.worlds c.explore.new.worlds in
    let told = c.in_ok-closing.ensures in
    let listed = subst (λ (l : List Node). AreListedMet g.W.Claims.meets ws l c.args.claims.now c.in_ok-listed.listed.met.items) c.as_slice.ensures.value
    c.in_ok-listed.ensures.listed in
    all_few g.W.Worlds.step g.W.Worlds.report g.W.Worlds.most_born c.limits_of.result.entries ws (g.W.Worlds.faults c.explore.new.worlds)
    (shape c.explore.new.graph) told.fits g.W.Claims.meets c.args.claims.now c.in_ok-listed.listed.met.items listed

pub returns-clause-short : goal.returns-clause-short
returns-clause-short g c =
    let ws = g.W.Worlds.worlds c.explore.new.worlds in
    let told = c.in_ok-closing.ensures in
    let entries = c.limits_of.ensures.entries in
    let listed = subst (λ (l : List Node). AreListedMet g.W.Claims.meets ws l c.args.claims.now c.in_ok-listed.listed.met.items) c.as_slice.ensures.value
    c.in_ok-listed.ensures.listed in
    all_brief g.W.Worlds.step g.W.Worlds.report g.W.Worlds.most_born c.limits_of.result.entries ws (g.W.Worlds.faults c.explore.new.worlds)
    (shape c.explore.new.graph) told.fits g.W.Claims.meets c.args.claims.now c.in_ok-listed.listed.met.items listed c.args.bounds.entries (omega (arith, entries))
