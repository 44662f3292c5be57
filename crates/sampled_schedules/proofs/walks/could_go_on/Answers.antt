use Rattle.std.{proofs.{Common.{◌≡◌, ◌⊎◌, ℕ, Some, sym, arith, subst}, lemmas.{Grind.common_steps, Option.gets}}, specs.List.slice_get}
use Rattle.scheduled_core.{specs.{Finals.{HasEnded, IsAtRest}, Fitting.{Fits, cell_registered}}, proofs.Settling.{below_length, one_settled}}
use Rattle.sampled_schedules.proofs.walks.could_go_on.Goals as goal

pub is_done-requires : goal.is_done-requires
is_done-requires c =
    let at : slice_get c.args.fibers.now c.loop-fiber.fiber-index ≡ Some c.fiber-item.result = grind (arith, common_steps, gets) in
    let fits = c.requires.each c.loop-fiber.fiber-index c.fiber-item.result at in
    subst (λ (n : ℕ). Fits (cell_registered c.args.registry.now.state n) c.fiber-item.result) (sym fits.number) fits

pub loop-fiber-preserved : goal.loop-fiber-preserved
loop-fiber-preserved c =
    let g = c.fiber-item.result in
    let s = c.args.registry.now.state in
    let at : slice_get c.args.fibers.now c.loop-fiber.fiber-index ≡ Some g = grind (arith, common_steps, gets) in
    let number = (c.requires.each c.loop-fiber.fiber-index g at).number in
    one_settled (λ f x. HasEnded x ⊎ IsAtRest s f x) c.args.fibers.now c.loop-fiber.fiber-index g c.loop-fiber.invariant at
    (subst (λ n. HasEnded g ⊎ IsAtRest s n g) number
    (c.is_done.ensures.done c.if-not-is_done.false))

pub returns-then-not-is_done-clause-some : goal.returns-then-not-is_done-clause-some
returns-then-not-is_done-clause-some c = λ is.
    let at : slice_get c.args.fibers.now c.loop-fiber.fiber-index ≡ Some c.fiber-item.result = grind (arith, common_steps, gets) in
    (c.loop-fiber.fiber-index, c.fiber-item.result, at, c.is_done.ensures.unended c.if-not-is_done.true)

pub returns-clause-none : goal.returns-clause-none
returns-clause-none c = λ is f g at.
    let long = below_length c.args.fibers.now f g at in
    let end = c.loop-fiber-test.false in
    c.loop-fiber.invariant f g (omega arith) at
