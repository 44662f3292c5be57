use Rattle.std.proofs.Common.{◌<◌, ◌≤◌, ℕ, List, length, Ok, sym, ap, ◌∙◌, subst, arith}
use Rattle.world_search.proofs.Lists.{get_low}
use Rattle.every_outcome.{specs.{Places.unmarked_place, Private.Reduced.{IsTrail, behind}}, proofs.{Leaps.{leapt_born, leapt_rests}, Trails.trail_more}}
use Rattle.every_outcome.proofs.Trails.{trail_none, trail_one}
use Rattle.every_outcome.proofs.leaping.leap.Goals as goal

pub returns-then-from-few_born-clause-goes : goal.returns-then-from-few_born-clause-goes
returns-then-from-few_born-clause-goes c = λ says.
    let w = c.args.world.now in
    let born = c.few_born.ensures.born in
    let past : length w.world.fibers ≤ c.args.fiber = omega arith in
    leapt_rests says c.args.stores w.limits w.world c.args.fiber past

pub returns-then-from-few_born-clause-trail : goal.returns-then-from-few_born-clause-trail
returns-then-from-few_born-clause-trail c = λ says. trail_none says c.args.trail.now.items (unmarked_place says c.args.world.now)

pub returns-clause-goes : goal.returns-clause-goes
returns-clause-goes c = λ says.
    let w = c.args.world.now in
    let born = c.few_born.ensures.born in
    let low : c.args.fiber < length w.world.fibers = omega arith in
    let g = get_low w.world.fibers c.args.fiber low in
    leapt_born says c.args.stores w.limits w.world c.args.fiber g.0 g.1 ∙ ap (behind says c.args.stores) (c.in_ok-enter.ensures.goes says) ∙
    ap Ok (sym (c.in_ok-push.ensures.goes says))

pub returns-clause-trail : goal.returns-clause-trail
returns-clause-trail c = λ says.
    let p = unmarked_place says c.args.world.now in
    let next = unmarked_place says c.enter.new.self in
    let few = c.few_born.ensures.few in
    let low : c.args.fiber < 1000 = omega arith in
    let old = c.args.trail.now.items in
    let one = subst (λ (l : List ℕ). IsTrail says old l p (Ok next)) (sym c.in_ok-add.ensures)
    (trail_one says old p c.args.fiber (Ok next) low (c.in_ok-enter.ensures.goes says)) in
    trail_more says old c.add.new.trail.items c.push.new.trail.items p next (Ok (unmarked_place says c.push.new.world)) one
    (c.in_ok-push.ensures.trail says)
