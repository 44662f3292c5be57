use Rattle.fiber_frames.proofs.Prelude.{List, map, take, EnvEntry, finalizer_of, leaf_of, step_of, leaf_in, Names}
use Rattle.fiber_frames.proofs.machine.Machine.slots.Given as goal

-- the slots are those of the leaf and of the frames so far
abbrev pub invariant-loop-frame : goal.invariant-loop-frame
invariant-loop-frame l = record {
  leaf : Names l.slots (λ (es : List EnvEntry). leaf_of l.self.words.value es (leaf_in l.self.place));
  frames : Names l.slots (λ (es : List EnvEntry). map (step_of l.self.words.value es l.self.own) (take l.frame-index l.self.frames.items));
}

-- and of the finalizers so far
abbrev pub invariant-loop-it : goal.invariant-loop-it
invariant-loop-it l = record {
  leaf : Names l.slots (λ (es : List EnvEntry). leaf_of l.self.words.value es (leaf_in l.self.place));
  frames : Names l.slots (λ (es : List EnvEntry). map (step_of l.self.words.value es l.self.own) l.self.frames.items);
  finalizers : Names l.slots (λ (es : List EnvEntry). map (finalizer_of l.self.words.value es) (take l.it-index l.self.finalizers.items));
}
