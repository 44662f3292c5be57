use Rattle.std.proofs.Common.{◌<◌, ◌+◌, ℕ, drop, length, ap, ◌∙◌, arith}
use Rattle.fiber_frames.specs.Weights.{weight_of}
use Rattle.world_search.proofs.Lists.{get_low}
use Rattle.every_schedule.specs.Persistent.{weights}
use Rattle.every_schedule.specs.Sizes.{capped}
use Rattle.every_schedule.specs.Private.Standing.{here}
use Rattle.every_schedule.proofs.Sets.{capped_sum, weights_more, weights_none}
use Rattle.every_schedule.proofs.current.Current.weight.Goals as goal

pub loop-place-preserved : goal.loop-place-preserved
loop-place-preserved c =
    let gs = (here c.args.self.now).world.fibers in
    let i = c.loop-place.place in
    let long = c.born-place-end.ensures in
    let low : i < length gs = omega arith in
    let b = get_low gs i low in
    let sum = c.saturating_add-sum.ensures in
    record {
      low = omega arith;
      sum = ap (λ (n : ℕ). capped (n + weights (drop (i + 1) gs))) (sum ∙ ap (λ (m : ℕ). capped (c.loop-place.sum + m)) (c.weight_of.ensures b.0 b.1)) ∙
          capped_sum c.loop-place.sum (weights (drop i gs)) (weight_of b.0) (weights (drop (i + 1) gs)) (capped (weights gs)) c.loop-place.invariant.sum
          (weights_more gs i b.0 b.1);
    }

pub returns : goal.returns
returns c =
    let gs = (here c.args.self.now).world.fibers in
    let long = c.born-place-end.ensures in
    let known = c.loop-place.invariant in
    let none = weights_none gs c.loop-place.place (omega arith) in
    let low = known.low in
    let sum = known.sum in
    omega (arith, none, low, sum)
