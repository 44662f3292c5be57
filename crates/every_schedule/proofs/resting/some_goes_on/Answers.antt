use Rattle.std.{proofs.{Common.{◌≡◌, ◌⊎◌, ℕ, Some, sym, arith, subst}, lemmas.{Grind.common_steps, Option.gets}}, specs.List.slice_get}
use Rattle.scheduled_core.specs.{Finals.{HasEnded, IsAtRest}, Fitting.{Fits, cell_registered}}
use Rattle.every_schedule.proofs.resting.some_goes_on.Goals as goal

pub goes_on-requires : goal.goes_on-requires
goes_on-requires c =
    let at : slice_get c.args.fibers.now c.loop-config.config-index ≡ Some c.config-item.result = grind (arith, common_steps, gets) in
    let fits = c.requires.each c.loop-config.config-index c.config-item.result at in
    subst (λ (n : ℕ). Fits (cell_registered c.args.registry.now.state n) c.config-item.result) (sym fits.number) fits

pub returns-then-goes_on : goal.returns-then-goes_on
returns-then-goes_on c = λ yes final.
    let g = c.config-item.result in
    let s = c.args.registry.now.state in
    let at : slice_get c.args.fibers.now c.loop-config.config-index ≡ Some g = grind (arith, common_steps, gets) in
    let number = (c.requires.each c.loop-config.config-index g at).number in
    c.goes_on.ensures c.if-goes_on.true
    (subst (λ n. HasEnded g ⊎ IsAtRest s n g) (sym number) (final c.loop-config.config-index g at))
