use Rattle.fiber_frames.proofs.Prelude.{◌≡◌, take, Pending, finalizer_of, tree_hits}
use Rattle.fiber_frames.proofs.PathHits.{total}
use Rattle.fiber_frames.proofs.machine.Machine.finalizers_use.Given as goal

-- the finalizers so far don't use the number so
abbrev pub invariant-loop-it : goal.invariant-loop-it
invariant-loop-it l =
    total (λ (p : Pending). tree_hits l.sought.what l.sought.number (finalizer_of l.self.words.value l.self.env.items p)) (take l.it-index l.self.finalizers.items) ≡ 0
