use Rattle.fiber_frames.proofs.Prelude.{◌≡◌, List, length, get_or, min, ap, subst, sym, ◌∙◌, ◌+◌, arith, Frame, leaf_tree, state_of}
use Rattle.fiber_frames.proofs.PathHits.{total_all}
use Rattle.fiber_frames.proofs.PathWeights.{capped_more, frame_weight, path_is}
use Rattle.fiber_frames.specs.Weights.{tree_weight}
use Rattle.fiber_frames.proofs.machine.Machine.path_weight.Goals as goal

pub loop-frame-preserved : goal.loop-frame-preserved
loop-frame-preserved c =
    let m = c.args.self.now in
    let i = c.loop-frame.frame-index in
    let same = c.as_slice-frame-items.ensures.value in
    let long = ap length same in
    let test = c.loop-frame-test.true in
    let more = subst (λ (l : List Frame). c.frame_weight.result ≡ min (frame_weight m (get_or l i _)) 18446744073709551615) same c.frame_weight.ensures in
    capped_more (frame_weight m) 18446744073709551615 (tree_weight (leaf_tree (state_of m))) c.loop-frame.sum c.frame_weight.result _ m.frames.items i _
    (omega (arith, long, test)) c.loop-frame.invariant more c.saturating_add-sum.ensures

pub returns : goal.returns
returns c =
    let m = c.args.self.now in
    let long = ap length c.as_slice-frame-items.ensures.value in
    let past = c.loop-frame-test.false in
    let all = total_all (frame_weight m) m.frames.items c.loop-frame.frame-index (omega (arith, long, past)) in
    c.loop-frame.invariant ∙ ap (λ k. min k 18446744073709551615) (ap (λ k. tree_weight (leaf_tree (state_of m)) + k) all ∙ sym (path_is m))
