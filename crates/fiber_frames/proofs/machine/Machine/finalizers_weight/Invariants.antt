use Rattle.fiber_frames.proofs.Prelude.{◌≡◌, ◌+◌, min, take, Pending, finalizer_of}
use Rattle.fiber_frames.proofs.PathHits.{total}
use Rattle.fiber_frames.specs.Weights.{tree_weight}
use Rattle.fiber_frames.proofs.machine.Machine.finalizers_weight.Given as goal

-- the sum is the weight of the finalizers so far
abbrev pub invariant-loop-it : goal.invariant-loop-it
invariant-loop-it l = l.sum ≡
    min (0 +
    total (λ (p : Pending). tree_weight (finalizer_of l.self.words.value l.self.env.items p)) (take l.it-index l.self.finalizers.items)) 18446744073709551615
