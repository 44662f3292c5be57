use Rattle.std.proofs.Common.{◌≡◌, ◌≤◌, length, Ok, None, subst, ap, arith, rules}
use Rattle.std.specs.List.{slice_get}
use Rattle.std.proofs.lemmas.Grind.{common_steps}
use Rattle.every_outcome.specs.Places.{Place, with_says}
use Rattle.every_outcome.specs.Private.Reduced.{leapt}
use Rattle.every_outcome.proofs.Leaps.{leapt_rests}
use Rattle.every_outcome.proofs.Stepping.{get_past, get_unmarked}
use Rattle.every_outcome.proofs.world.SeenWorld.born.Goals as goal

pub returns-clause-rests : goal.returns-clause-rests
returns-clause-rests g c = λ stores f past.
    let says = with_says g.row.SAYS in
    let w = c.self.inside.core in
    let many = ap length c.fibers.ensures in
    let low : length w.world.fibers ≤ f = first_of (omega (arith, past, many), grind (arith, common_steps), search rules) in
    subst (λ (p : Place). leapt says stores p f ≡ Ok p) c.self.view_is (leapt_rests says stores w.limits w.world f low)

pub returns-clause-none : goal.returns-clause-none
returns-clause-none g c = λ f past.
    let says = with_says g.row.SAYS in
    let w = c.self.inside.core in
    let many = ap length c.fibers.ensures in
    let low : length w.world.fibers ≤ f = first_of (omega (arith, past, many), grind (arith, common_steps), search rules) in
    subst (λ (p : Place). slice_get p.world.fibers f ≡ None) c.self.view_is (get_unmarked says w.world.fibers f None (get_past w.world.fibers f low))
