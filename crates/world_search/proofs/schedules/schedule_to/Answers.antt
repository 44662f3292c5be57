use Rattle.std.proofs.Common.{◌≡◌, ◌+◌, List, [], ◌∷◌, ◌++◌, reverse, slice_index_or, refl, sym, ap, ◌∙◌, subst, arith, append_assoc}
use Rattle.std.{proofs.lemmas.{List.reverse-append, Option.get_or_from_slice_get}, specs.{Prelude.Some, List.slice_get}}
use Rattle.world_search.specs.{declared.graphs.Node.Node, Private.Paths.{IsPath, IsPath.{Root, Then}}}
use Rattle.world_search.proofs.schedules.schedule_to.Goals as goal

pub loop-entry-preserved : goal.loop-entry-preserved
loop-entry-preserved c =
    let known = c.loop-entry.invariant in
    let nodes : List Node = c.args.nodes.now in
    let node : Node = c.loop-entry.node in
    let above = known.chained (omega arith) in
    let next : Node = slice_index_or nodes node.from (record { from = 0; depth = 0; fiber = 0 }) in
    let is : next ≡ above.0 = get_or_from_slice_get nodes node.from above.0 (record { from = 0; depth = 0; fiber = 0 }) above.1 in
    let there : slice_get nodes node.from ≡ Some next = above.1 ∙ ap Some (sym is) in
    let deep : node.depth ≡ next.depth + 1 = above.2 ∙ ap (λ (n : Node). n.depth + 1) (sym is) in
    record {
      chained = c.requires.nodes node.from next there;
      deep = omega arith;
      path = λ s way.
          let on : IsPath nodes c.args.last ((s ++ (node.fiber ∷ [])) ++ reverse c.loop-entry.schedule.items) =
          known.path (s ++ (node.fiber ∷ [])) (Then node next s (s ++ (node.fiber ∷ [])) there deep way refl) in
          let turned : reverse c.push.new.self.items ≡ node.fiber ∷ reverse c.loop-entry.schedule.items =
          ap reverse c.in_ok-push.ensures.items ∙ reverse-append c.loop-entry.schedule.items (node.fiber ∷ []) in
          let same : (s ++ (node.fiber ∷ [])) ++ reverse c.loop-entry.schedule.items ≡ s ++ reverse c.push.new.self.items =
          append_assoc s (node.fiber ∷ []) (reverse c.loop-entry.schedule.items) ∙ ap (λ l. s ++ l) (sym turned) in
          subst (IsPath nodes c.args.last) same on;
    }

pub returns : goal.returns
returns c =
    let known = c.loop-entry.invariant in
    subst (IsPath c.args.nodes.now c.args.last) (sym c.reverse.ensures.items)
    (known.path [] (Root c.loop-entry.node [] (omega arith) refl))
