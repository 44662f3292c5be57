use Rattle.std.proofs.Common.{◌++◌, ◌∙◌, ap, arith}
use Rattle.exploration_text.proofs.SampleParts.{all_told, told}
use Rattle.exploration_text.proofs.samples.comings_text.Goals as goal

pub loop-coming-preserved : goal.loop-coming-preserved
loop-coming-preserved c =
    told c.args.wants.now c.args.comings.now c.loop-coming.coming-index c.coming-item.result c.loop-coming.text.items c.in_ok-part.part.items _ (omega arith) c.coming-item.is
    c.in_ok-part.ensures (c.in_ok-extend_from_slice.ensures.items ∙ ap (λ t. c.loop-coming.text.items ++ t) c.as_slice.ensures.value) c.loop-coming.invariant

pub returns : goal.returns
returns c = all_told c.args.wants.now c.args.comings.now c.loop-coming.coming-index c.loop-coming.text.items (omega arith) c.loop-coming.invariant
