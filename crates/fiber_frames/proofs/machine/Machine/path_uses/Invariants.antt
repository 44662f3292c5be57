use Rattle.fiber_frames.proofs.Prelude.{◌≡◌, take, Frame, leaf_of, step_of, leaf_in, step_hits, tree_hits}
use Rattle.fiber_frames.proofs.PathHits.{total}
use Rattle.fiber_frames.proofs.machine.Machine.path_uses.Given as goal

-- neither the leaf nor the frames so far use the number so
abbrev pub invariant-loop-frame : goal.invariant-loop-frame
invariant-loop-frame l = record {
  leaf : tree_hits l.sought.what l.sought.number (leaf_of l.self.words.value l.self.env.items (leaf_in l.self.place)) ≡ 0;
  frames : total (λ (f : Frame). step_hits l.sought.what l.sought.number (step_of l.self.words.value l.self.env.items l.self.own f)) (take l.frame-index l.self.frames.items) ≡ 0;
}
