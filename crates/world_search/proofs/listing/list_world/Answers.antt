use Rattle.std.{proofs.{Common.{◌≡◌, List, false, sym, subst, arith}, lemmas.{Grind.common_steps, Option.gets}}, specs.{Prelude.Some, List.slice_get}}
use Rattle.world_search.specs.{declared.graphs.Node.Node, Private.{Listed.Adds, Paths.IsChained, Shapes.shape}}
use Rattle.world_search.proofs.{Answering.{listed_within, adds_faultless, adds_more, adds_named, adds_once, adds_world, named_answered}, Filing.adds_filed}
use Rattle.world_search.specs.declared.landings.Landing.TheVariants as to
use Rattle.world_search.proofs.listing.list_world.Goals as goal

pub is_told-requires-clause-within : goal.is_told-requires-clause-within
is_told-requires-clause-within g c = λ b j at.
    let named = c.requires.filed.only b j at in
    let known = c.requires.known in
    let low = listed_within (shape c.args.graph.now) c.args.answers.now.items c.requires.listed named.1.0 named.0 j named.1.1 named.2 in
    omega arith

pub returns-then-is_told-clause-told : goal.returns-then-is_told-clause-told
returns-then-is_told-clause-told g c = λ w flag at. c.is_told.ensures.yes c.if-is_told.true c.args.answers.now.items w c.requires.filed at

pub tell-requires-clause-last : goal.tell-requires-clause-last
tell-requires-clause-last g c =
    let at : slice_get c.args.graph.now.nodes.items c.args.index ≡ Some c.index-2.result.now = grind (arith, common_steps, gets) in
    subst (λ (l : List Node). IsChained l c.index-2.result.now) (sym c.as_slice.ensures.value) (c.requires.chained c.args.index c.index-2.result.now at)

pub returns-clause-listed : goal.returns-clause-listed
returns-clause-listed g c =
    let at : slice_get c.args.graph.now.nodes.items c.args.index ≡ Some c.index-2.result.now = grind (arith, common_steps, gets) in
    let flag : slice_get c.args.graph.now.unsettled.items c.args.index ≡ Some false = grind (arith, common_steps, gets) in
    let adds = subst (λ (l : List Node). Adds l c.index-2.result.now (to.World c.args.index) c.args.answers.now.items c.tell.new.answers.items)
    c.as_slice.ensures.value c.in_ok-tell.ensures in
    adds_world (shape c.args.graph.now) c.args.answers.now.items c.tell.new.answers.items c.args.index c.index-2.result.now c.requires.listed adds at flag

pub returns-clause-more : goal.returns-clause-more
returns-clause-more g c =
    adds_more c.as_slice.result.now c.index-2.result.now (to.World c.args.index) c.args.answers.now.items c.tell.new.answers.items c.in_ok-tell.ensures

pub returns-clause-filed : goal.returns-clause-filed
returns-clause-filed g c =
    adds_filed g.W.Worlds.report_digest g.W.Worlds.report (g.W.Worlds.worlds c.args.worlds.now) c.as_slice.result.now c.index-2.result.now
    c.args.index c.bucket_of-bucket.result c.args.answers.now.items c.tell.new.answers.items c.args.told.now.buckets.items c.file.new.self.buckets.items
    c.in_ok-tell.ensures c.requires.filed c.in_ok-file.ensures c.bucket_of-bucket.ensures.bucket

pub returns-clause-told : goal.returns-clause-told
returns-clause-told g c = λ w flag at.
    named_answered g.W.Worlds.step g.W.Worlds.report (g.W.Worlds.worlds c.args.worlds.now) (g.W.Worlds.faults c.args.worlds.now)
    c.tell.new.answers.items c.args.index w
    (adds_named c.as_slice.result.now c.index-2.result.now (to.World c.args.index) c.args.answers.now.items c.tell.new.answers.items c.in_ok-tell.ensures) at

pub returns-clause-once : goal.returns-clause-once
returns-clause-once g c = λ once.
    adds_once g.W.Worlds.report (g.W.Worlds.worlds c.args.worlds.now) c.as_slice.result.now c.index-2.result.now (to.World c.args.index)
    c.args.answers.now.items c.tell.new.answers.items c.in_ok-tell.ensures once
    (λ k a at. c.is_told.ensures.no c.if-is_told.false c.args.answers.now.items k a c.requires.filed at)

pub returns-clause-faultless : goal.returns-clause-faultless
returns-clause-faultless g c = λ none.
    adds_faultless c.as_slice.result.now c.index-2.result.now c.args.index c.args.answers.now.items c.tell.new.answers.items c.in_ok-tell.ensures none
