use Rattle.std.proofs.Common.{ℕ, List, Ok, refl, sym, ◌∙◌, subst}
use Rattle.every_outcome.{specs.{Places.unmarked_place, Private.Reduced.IsTrail}, proofs.{Leaps.{fiber_made, fiber_none}, Trails.{trail_none, trail_one}}}
use Rattle.every_outcome.proofs.leaping.push_fiber.Goals as goal

pub returns-then-not-may_move-clause-goes : goal.returns-then-not-may_move-clause-goes
returns-then-not-may_move-clause-goes c = λ says.
    sym (fiber_none says c.args.stores (unmarked_place says c.args.world.now) c.args.fiber (sym (c.may_move.ensures says) ∙ c.if-not-may_move.true))

pub returns-then-not-may_move-clause-stays : goal.returns-then-not-may_move-clause-stays
returns-then-not-may_move-clause-stays c = λ none says. refl

pub returns-then-not-may_move-clause-trail : goal.returns-then-not-may_move-clause-trail
returns-then-not-may_move-clause-trail c = λ says. trail_none says c.args.trail.now.items (unmarked_place says c.args.world.now)

pub returns-clause-goes : goal.returns-clause-goes
returns-clause-goes c = λ says.
    sym (fiber_made says c.args.stores (unmarked_place says c.args.world.now) c.args.fiber (unmarked_place says c.enter.new.self)
    (sym (c.may_move.ensures says) ∙ c.if-not-may_move.false) (c.in-Ok.ensures.goes says))

pub returns-clause-trail : goal.returns-clause-trail
returns-clause-trail c = λ says.
    let old = c.args.trail.now.items in
    let p = unmarked_place says c.args.world.now in
    let q = unmarked_place says c.enter.new.self in
    subst (λ (l : List ℕ). IsTrail says old l p (Ok q)) (sym c.in_ok-add.ensures)
    (trail_one says old p c.args.fiber (Ok q) c.requires.few (c.in-Ok.ensures.goes says))
