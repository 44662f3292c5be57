use Rattle.std.proofs.{Common.{◌≡◌, List, sym, ◌∙◌, subst, arith}, lemmas.{Grind.common_steps, Option.{gets, same_Some, slice_get_within}}}
use Rattle.std.specs.{Prelude.Some, List.slice_get}
use mathlib.Core.Logic.{dite}
use native.Mathlib.Decide.{ℕ_discrete}
use Rattle.world_search.specs.{declared.graphs.{Noted.Noted, Node.Node}, Private.{Listed.{Adds, IsNamed}, Paths.IsChained, Shapes.shape}}
use Rattle.world_search.proofs.{Lists.{more_more, more_same}, Answering.{adds_more, adds_named, adds_fault, adds_faults, adds_noted, named_more, no_faults}}
use Rattle.world_search.proofs.Answering.{none_noted}
use Rattle.world_search.specs.declared.landings.Landing.TheVariants as to
use Rattle.world_search.proofs.listing.list_faults.Goals as goal

pub loop-index-init : goal.loop-index-init
loop-index-init c = record {
  listed = c.requires.listed;
  more = more_same c.args.answers.now.items;
  adds = no_faults c.args.answers.now.items c.requires.faultless;
  from = none_noted c.args.graph.now.noted.items c.args.answers.now.items c.requires.faultless;
  told = λ k n low. absurd (omega arith);
}

pub tell-requires-clause-last : goal.tell-requires-clause-last
tell-requires-clause-last c =
    let noted : Noted = c.index-noted.result.now in
    let at : slice_get c.args.graph.now.noted.items c.loop-index.index ≡ Some noted = grind (arith, common_steps, gets) in
    subst (λ (l : List Node). IsChained l noted.node) (sym c.as_slice.ensures.value) (c.requires.noted c.loop-index.index noted at)

pub loop-index-preserved : goal.loop-index-preserved
loop-index-preserved c =
    let known = c.loop-index.invariant in
    let nodes : List Node = c.args.graph.now.nodes.items in
    let noted : Noted = c.index-noted.result.now in
    let old = c.loop-index.answers.items in
    let new = c.tell.new.answers.items in
    let at : slice_get c.args.graph.now.noted.items c.loop-index.index ≡ Some noted = grind (arith, common_steps, gets) in
    let adds : Adds nodes noted.node (to.Fault noted.fault) old new =
    subst (λ (l : List Node). Adds l noted.node (to.Fault noted.fault) old new) c.as_slice.ensures.value c.in_ok-tell.ensures in
    record {
      listed = adds_fault (shape c.args.graph.now) old new c.loop-index.index noted known.listed adds at;
      adds = adds_faults nodes noted c.loop-index.index c.args.graph.now.noted.items c.args.answers.now.items old new adds c.requires.once at
          known.from known.adds;
      from = adds_noted nodes noted c.loop-index.index c.args.graph.now.noted.items old new adds at known.from;
      more = more_more c.args.answers.now.items old new known.more (adds_more nodes noted.node (to.Fault noted.fault) old new adds);
      told = λ k n low there. dite (ℕ_discrete k c.loop-index.index)
          (λ is.
          let same : noted ≡ n = same_Some noted n (sym at ∙ subst (λ i. slice_get c.args.graph.now.noted.items i ≡ Some n) is there) in
          subst (λ (x : Noted). IsNamed new (to.Fault x.fault)) same (adds_named nodes noted.node (to.Fault noted.fault) old new adds))
          (λ isnt. named_more old new (to.Fault n.fault) (adds_more nodes noted.node (to.Fault noted.fault) old new adds) (known.told k n (omega arith) there));
    }

pub returns-clause-told : goal.returns-clause-told
returns-clause-told c = λ k n at.
    let low = slice_get_within c.args.graph.now.noted.items k n at in
    c.loop-index.invariant.told k n (omega arith) at
