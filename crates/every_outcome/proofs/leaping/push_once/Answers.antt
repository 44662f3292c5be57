use Rattle.std.proofs.{Common.{◌≡◌, ℕ, suc, refl, ◌+◌, ◌-◌, length, Ok, sym, ap, ◌∙◌, subst, arith}, lemmas.List.length-map}
use Rattle.every_outcome.{specs.{Places.{Place, shown, unmarked_place}, Private.Reduced.{pushed_once, swept}}, proofs.Leaps.{swept_next, swept_none}}
use Rattle.every_outcome.proofs.Trails.{trail_more, trail_none}
use Rattle.every_outcome.proofs.leaping.push_once.Goals as goal

pub loop-done-init : goal.loop-done-init
loop-done-init c = record {
  goes = λ says.
      ap (λ i. swept says c.args.stores i (unmarked_place says c.args.world.now))
      (let e : c.few_born-born.result ≡ c.few_born-born.result - 0 = omega arith in e);
  stays = λ e says. refl;
  fits = c.requires;
  trail = λ says. trail_none says c.args.trail.now.items (unmarked_place says c.args.world.now);
}

pub loop-done-preserved : goal.loop-done-preserved
loop-done-preserved c =
    let known = c.loop-done.invariant in
    let told = c.in_ok-made.ensures in
    let m : ℕ = c.few_born-born.result - 1 - c.loop-done.done in
    let place : m ≡ c.few_born-born.result - (c.loop-done.done + 1) = omega arith in
    let left : c.few_born-born.result - c.loop-done.done ≡ suc m = omega arith in
    record {
      goes = λ says.
          known.goes says
          ∙ swept_next says c.args.stores (c.few_born-born.result - c.loop-done.done) m (unmarked_place says c.loop-done.world)
          (unmarked_place says c.push_on.new.world) left (told.goes says)
          ∙ ap (λ i. swept says c.args.stores i (unmarked_place says c.push_on.new.world)) place;
      stays = λ none says. let both = c.either-moved.ensures none in told.stays both.1 says ∙ known.stays both.0 says;
      fits = told.fits;
      trail = λ says.
          trail_more says c.args.trail.now.items c.loop-done.trail.items c.push_on.new.trail.items (unmarked_place says c.args.world.now)
          (unmarked_place says c.loop-done.world) (Ok (unmarked_place says c.push_on.new.world)) (known.trail says) (told.trail says);
    }

pub returns-clause-goes : goal.returns-clause-goes
returns-clause-goes c = λ says.
    let known = c.loop-done.invariant in
    let first = unmarked_place says c.args.world.now in
    let now = unmarked_place says c.loop-done.world in
    let none : c.few_born-born.result - c.loop-done.done ≡ 0 = omega arith in
    let many : length first.world.fibers ≡ c.few_born-born.result =
    length-map c.args.world.now.world.fibers (shown says) ∙ sym c.few_born-born.ensures.born in
    sym (ap (λ i. swept says c.args.stores i first) many ∙ known.goes says ∙ ap (λ i. swept says c.args.stores i now) none ∙
    swept_none says c.args.stores now)

pub returns-clause-stays : goal.returns-clause-stays
returns-clause-stays c = λ still says.
    let known = c.loop-done.invariant in
    let first = unmarked_place says c.args.world.now in
    let now = unmarked_place says c.loop-done.world in
    let none : c.few_born-born.result - c.loop-done.done ≡ 0 = omega arith in
    let many : length first.world.fibers ≡ c.few_born-born.result =
    length-map c.args.world.now.world.fibers (shown says) ∙ sym c.few_born-born.ensures.born in
    let goes : pushed_once says c.args.stores first ≡ now =
    ap (λ i. swept says c.args.stores i first) many ∙ known.goes says ∙ ap (λ i. swept says c.args.stores i now) none ∙
    swept_none says c.args.stores now in
    subst (λ (x : Place). pushed_once says c.args.stores x ≡ now) (sym (known.stays still says)) goes

pub returns-clause-trail : goal.returns-clause-trail
returns-clause-trail c = λ says. c.loop-done.invariant.trail says
