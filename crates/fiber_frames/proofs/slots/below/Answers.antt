use Rattle.fiber_frames.proofs.SlotSets.{below_agrees}
use Rattle.fiber_frames.proofs.slots.below.Goals as goal

pub returns-then-level-lt64 : goal.returns-then-level-lt64
returns-then-level-lt64 c = λ es fs h. below_agrees c.args.slots c.args.level es fs h c.if-level-lt64.true
