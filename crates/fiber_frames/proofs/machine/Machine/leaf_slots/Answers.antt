use Rattle.fiber_frames.proofs.Prelude.{List, pos, sym, subst, CoreWord, Tree, tree_at, EnvEntry, WordKind, close, env_of, leaf_of, Leaf, leaf_by, Names}
use Rattle.derived_ops.specs.Tree as tree
use Rattle.fiber_frames.proofs.SlotSets.{leaf_word, names_ap}
use Rattle.fiber_frames.proofs.machine.Machine.leaf_slots.Goals as goal

pub returns-in-Turns : goal.returns-in-Turns
returns-in-Turns c =
    let p = c.args.self.now.place in
    let ws = c.args.self.now.words.value in
    let term = subst (λ (l : List CoreWord). Names c.slots.result (λ (es : List EnvEntry). close (env_of es p.level) (tree_at l p.part p.level)))
    c.deref.ensures (c.slots.ensures p.level) in
    subst (λ (k : WordKind). Names c.slots.result (λ (es : List EnvEntry). leaf_of ws es (leaf_by k p))) (sym c.in-Turns.is)
    (names_ap (λ (t : Tree). tree.Loop (tree.Times (tree.Number (pos p.index))) t) _ _ term)

pub returns-in_default : goal.returns-in_default
returns-in_default c =
    let p = c.args.self.now.place in
    let ws = c.args.self.now.words.value in
    let other = c.in_default in
    subst (λ (l : Leaf). Names c.slots-in_default.result (λ (es : List EnvEntry). leaf_of ws es l))
    (sym (leaf_word p.kind p other.not-Value other.not-Error other.not-Request other.not-Ending other.not-Store other.not-Turns))
    (subst (λ (l : List CoreWord). Names c.slots-in_default.result (λ (es : List EnvEntry). close (env_of es p.level) (tree_at l p.index p.level)))
    c.deref-in_default.ensures (c.slots-in_default.ensures p.level))
