use Rattle.std.proofs.Common.{◌≡◌, ℕ, suc, refl, ◌+◌, ◌-◌, Ok, sym, ap, ◌∙◌, arith}
use Rattle.every_outcome.{specs.{Places.{unmarked_place}, Private.Reduced.{after_own, moved_on}}, proofs.Leaps.{on_mask, on_next, on_none, on_stays}}
use Rattle.every_outcome.proofs.Trails.{trail_more, trail_none}
use Rattle.every_outcome.proofs.leaping.push_on.Goals as goal

pub loop-again-init : goal.loop-again-init
loop-again-init c = record {
  goes = λ says.
      ap (λ i. moved_on says c.args.stores i c.args.fiber (unmarked_place says c.args.world.now)) (let e : 50 ≡ 50 - 0 = omega arith in e);
  stays = λ e says. refl;
  fits = c.requires.fits;
  trail = λ says. trail_none says c.args.trail.now.items (unmarked_place says c.args.world.now);
}

pub returns-then-not-made-clause-goes : goal.returns-then-not-made-clause-goes
returns-then-not-made-clause-goes c = λ says.
    let known = c.loop-again.invariant in
    let told = c.in_ok-made.ensures in
    let now = unmarked_place says c.loop-again.world in
    let n : ℕ = 50 - c.loop-again._again in
    let same = told.stays c.if-not-made.true says in
    let rests : after_own says c.args.stores now c.args.fiber ≡ now = sym (told.goes says) ∙ same in
    sym (known.goes says ∙ on_stays says c.args.stores c.args.fiber n now rests ∙ sym same)

pub returns-then-not-made-clause-trail : goal.returns-then-not-made-clause-trail
returns-then-not-made-clause-trail c = λ says.
    trail_more says c.args.trail.now.items c.loop-again.trail.items c.push_fiber.new.trail.items (unmarked_place says c.args.world.now)
    (unmarked_place says c.loop-again.world) (Ok (unmarked_place says c.push_fiber.new.world)) (c.loop-again.invariant.trail says)
    (c.in_ok-made.ensures.trail says)

pub returns-then-not-made-clause-stays : goal.returns-then-not-made-clause-stays
returns-then-not-made-clause-stays c = λ none says. c.in_ok-made.ensures.stays c.if-not-made.true says ∙ c.loop-again.invariant.stays none says

pub returns-then-enters_mask-clause-goes : goal.returns-then-enters_mask-clause-goes
returns-then-enters_mask-clause-goes c = λ says.
    let known = c.loop-again.invariant in
    let told = c.in_ok-made.ensures in
    let now = unmarked_place says c.loop-again.world in
    let next = unmarked_place says c.push_fiber.new.world in
    let m : ℕ = 50 - (c.loop-again._again + 1) in
    let left : 50 - c.loop-again._again ≡ suc m = omega arith in
    sym (known.goes says ∙ on_mask says c.args.stores c.args.fiber (50 - c.loop-again._again) m now next left (told.goes says)
    (sym (c.enters_mask.ensures says) ∙ c.if-enters_mask.true))

pub returns-then-enters_mask-clause-trail : goal.returns-then-enters_mask-clause-trail
returns-then-enters_mask-clause-trail c = λ says.
    trail_more says c.args.trail.now.items c.loop-again.trail.items c.push_fiber.new.trail.items (unmarked_place says c.args.world.now)
    (unmarked_place says c.loop-again.world) (Ok (unmarked_place says c.push_fiber.new.world)) (c.loop-again.invariant.trail says)
    (c.in_ok-made.ensures.trail says)

pub loop-again-preserved : goal.loop-again-preserved
loop-again-preserved c =
    let known = c.loop-again.invariant in
    let told = c.in_ok-made.ensures in
    let m : ℕ = 50 - (c.loop-again._again + 1) in
    let left : 50 - c.loop-again._again ≡ suc m = omega arith in
    record {
      goes = λ says.
          known.goes says ∙ on_next says c.args.stores c.args.fiber (50 - c.loop-again._again) m (unmarked_place says c.loop-again.world)
          (unmarked_place says c.push_fiber.new.world) left (told.goes says) (sym (c.enters_mask.ensures says) ∙ c.if-enters_mask.false);
      stays = λ none. absurd (cc);
      fits = told.fits;
      trail = λ says.
          trail_more says c.args.trail.now.items c.loop-again.trail.items c.push_fiber.new.trail.items (unmarked_place says c.args.world.now)
          (unmarked_place says c.loop-again.world) (Ok (unmarked_place says c.push_fiber.new.world)) (known.trail says) (told.trail says);
    }

pub returns-clause-goes : goal.returns-clause-goes
returns-clause-goes c = λ says.
    let known = c.loop-again.invariant in
    let now = unmarked_place says c.loop-again.world in
    let none : 50 - c.loop-again._again ≡ 0 = omega arith in
    sym (known.goes says ∙ ap (λ i. moved_on says c.args.stores i c.args.fiber now) none ∙ on_none says c.args.stores c.args.fiber now)

pub returns-clause-stays : goal.returns-clause-stays
returns-clause-stays c = λ none says. c.loop-again.invariant.stays none says

pub returns-clause-trail : goal.returns-clause-trail
returns-clause-trail c = λ says. c.loop-again.invariant.trail says
