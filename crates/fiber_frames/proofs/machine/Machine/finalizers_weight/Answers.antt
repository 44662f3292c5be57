use Rattle.fiber_frames.proofs.Prelude.{◌≡◌, List, length, get_or, min, ap, subst, ◌∙◌, arith, Pending}
use Rattle.fiber_frames.proofs.PathHits.{total_all}
use Rattle.fiber_frames.proofs.PathWeights.{capped_more, finals_are, pending_weight}
use Rattle.fiber_frames.proofs.machine.Machine.finalizers_weight.Goals as goal

pub loop-it-preserved : goal.loop-it-preserved
loop-it-preserved c =
    let m = c.args.self.now in
    let i = c.loop-it.it-index in
    let same = c.as_slice-it-items.ensures.value in
    let long = ap length same in
    let test = c.loop-it-test.true in
    let more = subst (λ (l : List Pending). c.word_weight.result ≡ min (pending_weight m (get_or l i _)) 18446744073709551615) same (c.word_weight.ensures _) in
    capped_more (pending_weight m) 18446744073709551615 0 c.loop-it.sum c.word_weight.result _ m.finalizers.items i _
    (omega (arith, long, test)) c.loop-it.invariant more c.saturating_add-sum.ensures

pub returns : goal.returns
returns c =
    let m = c.args.self.now in
    let long = ap length c.as_slice-it-items.ensures.value in
    let past = c.loop-it-test.false in
    let all = total_all (pending_weight m) m.finalizers.items c.loop-it.it-index (omega (arith, long, past)) in
    let is = finals_are m in
    c.loop-it.invariant ∙ ap (λ k. min k 18446744073709551615) (omega (arith, all, is))
