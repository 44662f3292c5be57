use Rattle.std.{proofs.{Common.{◌≡◌, ◌⊎◌, ℕ, Some, sym, arith, subst}, lemmas.{Grind.common_steps, Option.gets}}, specs.List.slice_get}
use Rattle.scheduled_core.{specs.{Finals.{HasEnded, IsAtRest}, Fitting.{Fits, cell_registered}}, proofs.Settling.{below_length, one_settled}}
use Rattle.reasons.proofs.unended.is_final.Goals as goal

pub is_done-requires : goal.is_done-requires
is_done-requires c =
    let at : slice_get c.args.fibers.now c.loop-config.config-index ≡ Some c.config-item.result = grind (arith, common_steps, gets) in
    let fits = c.requires.each c.loop-config.config-index c.config-item.result at in
    subst (λ (n : ℕ). Fits (cell_registered c.args.registry.now.state n) c.config-item.result) (sym fits.number) fits

pub loop-config-preserved : goal.loop-config-preserved
loop-config-preserved c =
    let g = c.config-item.result in
    let s = c.args.registry.now.state in
    let at : slice_get c.args.fibers.now c.loop-config.config-index ≡ Some g = grind (arith, common_steps, gets) in
    let number = (c.requires.each c.loop-config.config-index g at).number in
    one_settled (λ f x. HasEnded x ⊎ IsAtRest s f x) c.args.fibers.now c.loop-config.config-index g c.loop-config.invariant at
    (subst (λ n. HasEnded g ⊎ IsAtRest s n g) number
    (c.is_done.ensures.done c.if-not-is_done.false))

pub returns : goal.returns
returns c = λ e f g at.
    let long = below_length c.args.fibers.now f g at in
    let end = c.loop-config-test.false in
    c.loop-config.invariant f g (omega arith) at
