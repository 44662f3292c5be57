use Rattle.fiber_frames.proofs.MaskGathering.{masks_next}
use Rattle.fiber_frames.proofs.shapes.add_masks.Goals as goal

pub loop-frame-preserved : goal.loop-frame-preserved
loop-frame-preserved c =
    masks_next c.args.frames.now c.loop-frame.frame-index _ c.args.masks.now.items c.loop-frame.masks.items _ c.loop-frame-test.true
    c.in_ok-add_mask.ensures c.loop-frame.invariant
