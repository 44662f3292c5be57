use Rattle.std.{proofs.{Common.{◌≡◌, ℕ, Some, true, false, sym, ◌∙◌, arith, subst}, lemmas.{Grind.common_steps, Option.gets}}, specs.List.slice_get}
use Rattle.fiber_frames.specs.Fiber.{Fiber}
use Rattle.scheduled_core.{specs.Fitting.{Fits, cell_registered}, proofs.Settling.{below_length, one_settled}}
use Rattle.every_schedule.specs.Private.Stopping.{is_stopped}
use Rattle.every_schedule.proofs.Stopping.{all_stopped, one_goes, past_zero}
use Rattle.every_schedule.proofs.progress.are_stopped.Goals as goal

pub is_stopped-requires : goal.is_stopped-requires
is_stopped-requires c =
    let at : slice_get c.args.fibers.now c.loop-config.config-index ≡ Some c.config-item.result = grind (arith, common_steps, gets) in
    let fits = c.requires.each c.loop-config.config-index c.config-item.result at in
    subst (λ (n : ℕ). Fits (cell_registered c.args.registry.now.state n) c.config-item.result) (sym fits.number) fits

pub loop-config-preserved : goal.loop-config-preserved
loop-config-preserved c =
    let g = c.config-item.result in
    let s = c.args.registry.now.state in
    let at : slice_get c.args.fibers.now c.loop-config.config-index ≡ Some g = grind (arith, common_steps, gets) in
    let number = (c.requires.each c.loop-config.config-index g at).number in
    one_settled (λ f (x : Fiber). is_stopped s f x ≡ true) c.args.fibers.now c.loop-config.config-index g c.loop-config.invariant at
    (subst (λ n. is_stopped s n g ≡ true) number (sym c.in_ok-is_stopped.ensures ∙ c.if-not-branch.false))

pub returns-then-not-branch : goal.returns-then-not-branch
returns-then-not-branch c =
    let g = c.config-item.result in
    let s = c.args.registry.now.state in
    let at : slice_get c.args.fibers.now c.loop-config.config-index ≡ Some g = grind (arith, common_steps, gets) in
    let number = (c.requires.each c.loop-config.config-index g at).number in
    sym (one_goes s c.args.fibers.now c.loop-config.config-index g at
    (subst (λ n. is_stopped s n g ≡ false) number (sym c.in_ok-is_stopped.ensures ∙ c.if-not-branch.true)))

pub returns : goal.returns
returns c =
    let s = c.args.registry.now.state in
    sym (all_stopped s 0 c.args.fibers.now (λ f g at.
    let long = below_length c.args.fibers.now f g at in
    subst (λ n. is_stopped s n g ≡ true) (sym (past_zero f)) (c.loop-config.invariant f g (omega arith) at)))
