use Rattle.fiber_frames.proofs.Prelude.{List, subst, CoreWord, tree_at, EnvEntry, close, env_of, Names}
use Rattle.fiber_frames.proofs.machine.Machine.pending_slots.Goals as goal

pub returns : goal.returns
returns c =
    let p = c.args.it in
    subst (λ (l : List CoreWord). Names c.slots.result (λ (es : List EnvEntry). close (env_of es p.level) (tree_at l p.index p.level)))
    c.deref.ensures (c.slots.ensures p.level)
