use Rattle.std.proofs.Common.{◌≡◌, ℕ, suc, ◌+◌, ◌-◌, Ok, sym, ap, ◌∙◌, arith}
use Rattle.every_outcome.{specs.{Places.unmarked_place, Private.Reduced.pushed}, proofs.{Leaps.{pushed_next, pushed_none, pushed_stays}, Trails.trail_more}}
use Rattle.every_outcome.proofs.Trails.{trail_none}
use Rattle.every_outcome.proofs.leaping.push.Goals as goal

pub loop-round-init : goal.loop-round-init
loop-round-init c = record {
  goes = λ says. ap (λ i. pushed says c.args.stores i (unmarked_place says c.args.world.now)) (let e : 12 ≡ 12 - 0 = omega arith in e);
  fits = c.requires;
  trail = λ says. trail_none says c.args.trail.now.items (unmarked_place says c.args.world.now);
}

pub returns-then-not-moved-clause-goes : goal.returns-then-not-moved-clause-goes
returns-then-not-moved-clause-goes c = λ says.
    let known = c.loop-round.invariant in
    let told = c.in_ok-moved.ensures in
    let next = unmarked_place says c.push_once.new.world in
    let m : ℕ = 12 - (c.loop-round._round + 1) in
    let left : 12 - c.loop-round._round ≡ suc m = omega arith in
    sym (known.goes says ∙ pushed_next says c.args.stores (12 - c.loop-round._round) m (unmarked_place says c.loop-round.world) next left (told.goes says) ∙
    pushed_stays says c.args.stores m next (told.stays c.if-not-moved.true says))

pub returns-then-not-moved-clause-trail : goal.returns-then-not-moved-clause-trail
returns-then-not-moved-clause-trail c = λ says.
    trail_more says c.args.trail.now.items c.loop-round.trail.items c.push_once.new.trail.items (unmarked_place says c.args.world.now)
    (unmarked_place says c.loop-round.world) (Ok (unmarked_place says c.push_once.new.world)) (c.loop-round.invariant.trail says)
    (c.in_ok-moved.ensures.trail says)

pub loop-round-preserved : goal.loop-round-preserved
loop-round-preserved c =
    let known = c.loop-round.invariant in
    let told = c.in_ok-moved.ensures in
    let m : ℕ = 12 - (c.loop-round._round + 1) in
    let left : 12 - c.loop-round._round ≡ suc m = omega arith in
    record {
      goes = λ says.
          known.goes says
          ∙ pushed_next says c.args.stores (12 - c.loop-round._round) m (unmarked_place says c.loop-round.world)
          (unmarked_place says c.push_once.new.world) left (told.goes says);
      fits = told.fits;
      trail = λ says.
          trail_more says c.args.trail.now.items c.loop-round.trail.items c.push_once.new.trail.items (unmarked_place says c.args.world.now)
          (unmarked_place says c.loop-round.world) (Ok (unmarked_place says c.push_once.new.world)) (known.trail says) (told.trail says);
    }

pub returns-clause-goes : goal.returns-clause-goes
returns-clause-goes c = λ says.
    let known = c.loop-round.invariant in
    let now = unmarked_place says c.loop-round.world in
    let none : 12 - c.loop-round._round ≡ 0 = omega arith in
    sym (known.goes says ∙ ap (λ i. pushed says c.args.stores i now) none ∙ pushed_none says c.args.stores now)

pub returns-clause-trail : goal.returns-clause-trail
returns-clause-trail c = λ says. c.loop-round.invariant.trail says
