use Rattle.std.{proofs.Common.{ℕ, List, length, sym, subst}, specs.Prelude.Ok}
use Rattle.world_search.{specs.{declared.graphs.Edge.Edge, Private.{Flags.{AreWithin, AreBack, AreFlagged}, Shapes.shape}}, proofs.Answering.answered_more}
use Rattle.world_search.proofs.{Answering.faults_once, Lists.{got_none, more_get}, Paths.{are_chained, are_noted_chained}, Results.{within, all_covered}}
use Rattle.world_search.proofs.Results.{all_onward, all_right, all_numbered, all_short}
use Rattle.world_search.proofs.searching.search.Goals as goal

pub spread-requires : goal.spread-requires
spread-requires g c =
    let fits = c.in_ok-closing.ensures.fits in
    let all : AreWithin c.explore.new.graph.edges.items (length c.explore.new.graph.nodes.items) =
    within g.W.Worlds.step g.W.Worlds.report g.W.Worlds.most_born c.capped-2.result (g.W.Worlds.worlds c.explore.new.worlds)
    (g.W.Worlds.faults c.explore.new.worlds) (shape c.explore.new.graph) fits in
    subst (λ (n : ℕ). AreWithin c.as_slice.result.now n) (sym fits.unsettled)
    (subst (λ (l : List Edge). AreWithin l (length c.explore.new.graph.nodes.items)) (sym c.as_slice.ensures.value) all)

pub list_worlds-requires-clause-chained : goal.list_worlds-requires-clause-chained
list_worlds-requires-clause-chained g c =
    are_chained g.W.Worlds.step g.W.Worlds.report g.W.Worlds.most_born c.capped-2.result (g.W.Worlds.worlds c.explore.new.worlds)
    (g.W.Worlds.faults c.explore.new.worlds) (shape c.explore.new.graph) c.in_ok-closing.ensures.fits

pub list_faults-requires-clause-chained : goal.list_faults-requires-clause-chained
list_faults-requires-clause-chained g c =
    are_chained g.W.Worlds.step g.W.Worlds.report g.W.Worlds.most_born c.capped-2.result (g.W.Worlds.worlds c.explore.new.worlds)
    (g.W.Worlds.faults c.explore.new.worlds) (shape c.explore.new.graph) c.in_ok-closing.ensures.fits

pub list_faults-requires-clause-noted : goal.list_faults-requires-clause-noted
list_faults-requires-clause-noted g c =
    are_noted_chained g.W.Worlds.step g.W.Worlds.report g.W.Worlds.most_born c.capped-2.result (g.W.Worlds.worlds c.explore.new.worlds)
    (g.W.Worlds.faults c.explore.new.worlds) (shape c.explore.new.graph) c.in_ok-closing.ensures.fits

pub returns-clause-all : goal.returns-clause-all
returns-clause-all g c = λ complete first at.
    let ws = g.W.Worlds.worlds c.explore.new.worlds in
    let es = g.W.Worlds.faults c.explore.new.worlds in
    let told = c.in_ok-closing.ensures in
    let back = subst (λ (l : List Edge). AreBack l c.spread.new.flags.items 0) c.as_slice.ensures.value c.spread.ensures.back in
    let marks = subst (λ (l : List Edge). AreFlagged l c.explore.new.graph.unsettled.items c.spread.new.flags.items) c.as_slice.ensures.value
    c.spread.ensures.flagged in
    all_covered g.W.Worlds.step g.W.Worlds.report g.W.Worlds.most_born c.capped-2.result ws es (shape c.explore.new.graph) told.fits
    c.spread.new.flags.items c.spread.ensures.long c.spread.ensures.keeps back marks (told.done (c.is_whole.ensures.yes complete)) c.list_faults.new.answers.items
    (λ i w flag there. answered_more g.W.Worlds.step g.W.Worlds.report ws es c.list_worlds.new.answers.items c.list_faults.new.answers.items (Ok w)
    c.in_ok-list_faults.ensures.more (c.in_ok-list_worlds.ensures.told i w flag there))
    c.in_ok-list_faults.ensures.told
    first (more_get (g.W.Worlds.worlds c.args.worlds.now) ws 0 first told.grows.worlds at)

pub returns-clause-onward : goal.returns-clause-onward
returns-clause-onward g c = λ complete size growing first at.
    let ws = g.W.Worlds.worlds c.explore.new.worlds in
    let es = g.W.Worlds.faults c.explore.new.worlds in
    let told = c.in_ok-closing.ensures in
    let back = subst (λ (l : List Edge). AreBack l c.spread.new.flags.items 0) c.as_slice.ensures.value c.spread.ensures.back in
    let marks = subst (λ (l : List Edge). AreFlagged l c.explore.new.graph.unsettled.items c.spread.new.flags.items) c.as_slice.ensures.value
    c.spread.ensures.flagged in
    all_onward g.W.Worlds.step g.W.Worlds.report g.W.Worlds.most_born c.capped-2.result ws es (shape c.explore.new.graph) told.fits
    c.spread.new.flags.items c.spread.ensures.long c.spread.ensures.keeps back marks (told.done (c.is_whole.ensures.yes complete)) c.list_faults.new.answers.items
    (λ i w flag there. answered_more g.W.Worlds.step g.W.Worlds.report ws es c.list_worlds.new.answers.items c.list_faults.new.answers.items (Ok w)
    c.in_ok-list_faults.ensures.more (c.in_ok-list_worlds.ensures.told i w flag there))
    c.in_ok-list_faults.ensures.told size growing
    first (more_get (g.W.Worlds.worlds c.args.worlds.now) ws 0 first told.grows.worlds at)

pub returns-clause-each : goal.returns-clause-each
returns-clause-each g c = λ first at.
    let ws = g.W.Worlds.worlds c.explore.new.worlds in
    let es = g.W.Worlds.faults c.explore.new.worlds in
    let told = c.in_ok-closing.ensures in
    let back = subst (λ (l : List Edge). AreBack l c.spread.new.flags.items 0) c.as_slice.ensures.value c.spread.ensures.back in
    let marks = subst (λ (l : List Edge). AreFlagged l c.explore.new.graph.unsettled.items c.spread.new.flags.items) c.as_slice.ensures.value
    c.spread.ensures.flagged in
    all_right g.W.Worlds.step g.W.Worlds.report g.W.Worlds.most_born c.capped-2.result ws es (shape c.explore.new.graph) told.fits
    c.spread.new.flags.items c.spread.ensures.long c.spread.ensures.keeps back marks c.list_faults.new.answers.items c.in_ok-list_faults.ensures.listed
    first (more_get (g.W.Worlds.worlds c.args.worlds.now) ws 0 first told.grows.worlds at)

pub returns-clause-numbers : goal.returns-clause-numbers
returns-clause-numbers g c =
    let ws = g.W.Worlds.worlds c.explore.new.worlds in
    let es = g.W.Worlds.faults c.explore.new.worlds in
    let told = c.in_ok-closing.ensures in
    let back = subst (λ (l : List Edge). AreBack l c.spread.new.flags.items 0) c.as_slice.ensures.value c.spread.ensures.back in
    let marks = subst (λ (l : List Edge). AreFlagged l c.explore.new.graph.unsettled.items c.spread.new.flags.items) c.as_slice.ensures.value
    c.spread.ensures.flagged in
    all_numbered g.W.Worlds.step g.W.Worlds.report g.W.Worlds.most_born c.capped-2.result ws es (shape c.explore.new.graph) told.fits
    c.spread.new.flags.items c.spread.ensures.long c.spread.ensures.keeps back marks c.list_faults.new.answers.items c.in_ok-list_faults.ensures.listed

pub returns-clause-short : goal.returns-clause-short
returns-clause-short g c =
    let ws = g.W.Worlds.worlds c.explore.new.worlds in
    let es = g.W.Worlds.faults c.explore.new.worlds in
    let told = c.in_ok-closing.ensures in
    let back = subst (λ (l : List Edge). AreBack l c.spread.new.flags.items 0) c.as_slice.ensures.value c.spread.ensures.back in
    let marks = subst (λ (l : List Edge). AreFlagged l c.explore.new.graph.unsettled.items c.spread.new.flags.items) c.as_slice.ensures.value
    c.spread.ensures.flagged in
    all_short g.W.Worlds.step g.W.Worlds.report g.W.Worlds.most_born c.capped-2.result ws es (shape c.explore.new.graph) told.fits
    c.spread.new.flags.items c.spread.ensures.long c.spread.ensures.keeps back marks c.list_faults.new.answers.items c.in_ok-list_faults.ensures.listed
    c.args.bounds.entries c.capped-2.ensures.below

pub list_faults-requires-clause-faultless : goal.list_faults-requires-clause-faultless
list_faults-requires-clause-faultless g c =
    c.in_ok-list_worlds.ensures.faultless (λ k a j at. absurd (got_none c.new-answers.result.items k a c.new-answers.ensures.items at))

pub returns-clause-once : goal.returns-clause-once
returns-clause-once g c =
    faults_once g.W.Worlds.report (g.W.Worlds.worlds c.explore.new.worlds) c.list_worlds.new.answers.items c.list_faults.new.answers.items
    (c.in_ok-list_worlds.ensures.once (λ i j a b less at. absurd (got_none c.new-answers.result.items i a c.new-answers.ensures.items at)))
    (c.in_ok-list_worlds.ensures.faultless (λ k a j at. absurd (got_none c.new-answers.result.items k a c.new-answers.ensures.items at)))
    c.in_ok-list_faults.ensures.more c.in_ok-list_faults.ensures.adds
