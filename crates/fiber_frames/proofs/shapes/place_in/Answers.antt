use Rattle.std.proofs.Common.{arith}
use Rattle.fiber_frames.proofs.PlaceFinding.{place_found, place_none}
use Rattle.fiber_frames.proofs.shapes.place_in.Goals as goal

pub returns-then-mask-number : goal.returns-then-mask-number
returns-then-mask-number c = place_found c.args.masks.now c.loop-index.index c.args.number (omega arith) c.if-mask-number.true c.loop-index.invariant

pub returns : goal.returns
returns c = place_none c.args.masks.now c.args.number (λ k l. c.loop-index.invariant k (omega arith))
