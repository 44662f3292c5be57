use Rattle.std.proofs.Common.{subst}
use Rattle.world_search.specs.Landings.{EntersAt, LandsAt}
use Rattle.world_search.specs.declared.landings.Landing.TheVariants as to
use Rattle.world_search.specs.declared.landings.Entered.TheVariants as came
use Rattle.fair_ends.proofs.shortening.next_alone.Goals as goal

pub returns-in-At-World-clause-leads : goal.returns-in-At-World-clause-leads
returns-in-At-World-clause-leads g c = λ w at.
    let us = g.W.Worlds.worlds c.enter_alone.new.self in
    let es = g.W.Worlds.faults c.enter_alone.new.self in
    let y = g.W.Resting.entry w c.args.fiber in
    let on : EntersAt us es (came.At c.in-At-World.field-0) y = subst (λ it. EntersAt us es it y) c.in-At-World.is (c.in_ok-to.ensures.lands w at) in
    let there : LandsAt us es (to.World c.in-At-World.to) y = subst (λ l. LandsAt us es l y) c.in-At-World.field-0-is on in there
