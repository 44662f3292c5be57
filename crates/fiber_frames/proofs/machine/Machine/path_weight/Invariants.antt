use Rattle.fiber_frames.proofs.Prelude.{◌≡◌, ◌+◌, min, take, Frame, leaf_of, step_of, leaf_in}
use Rattle.fiber_frames.proofs.PathHits.{total}
use Rattle.fiber_frames.specs.Weights.{step_weight, tree_weight}
use Rattle.fiber_frames.proofs.machine.Machine.path_weight.Given as goal

-- the sum is the weight of the leaf and of the frames so far
abbrev pub invariant-loop-frame : goal.invariant-loop-frame
invariant-loop-frame l = l.sum ≡
    min (tree_weight (leaf_of l.self.words.value l.self.env.items (leaf_in l.self.place)) +
    total (λ (f : Frame). step_weight (step_of l.self.words.value l.self.env.items l.self.own f)) (take l.frame-index l.self.frames.items)) 18446744073709551615
