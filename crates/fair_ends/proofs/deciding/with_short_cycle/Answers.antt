use Rattle.std.proofs.Common.{◌≡◌, subst}
use Rattle.fair_ends.specs.{declared.ending.Cycle.Cycle, Fair.IsFairCycle}
use Rattle.fair_ends.proofs.deciding.with_short_cycle.Goals as goal

pub returns-in_ok-short-in-Repeats-clause-repeats : goal.returns-in_ok-short-in-Repeats-clause-repeats
returns-in_ok-short-in-Repeats-clause-repeats g c = λ cycle is. (
  c.in-Repeats.cycle,
  c.in-Repeats.is,
  λ first at h.
      let same : c.in_ok-short-in-Repeats.short ≡ cycle = cc in
      subst (λ (x : Cycle). IsFairCycle g.W.Resting.entry g.W.Resting.rests first x.stem.items x.cycle.items) same
      (c.in_ok-short-in-Repeats.ensures.cycle first at h),
)
