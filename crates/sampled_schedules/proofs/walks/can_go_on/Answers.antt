use Rattle.std.{proofs.{Common.{◌≡◌, ℕ, Some, sym, arith, subst}, lemmas.{Grind.common_steps, Option.gets}}, specs.List.slice_get}
use Rattle.scheduled_core.specs.Fitting.{Fits, cell_registered}
use Rattle.sampled_schedules.proofs.walks.can_go_on.Goals as goal

pub is_done-requires : goal.is_done-requires
is_done-requires c =
    let at : slice_get c.args.fibers.now c.from-place.result ≡ Some c.index-fibers-place.result = grind (arith, common_steps, gets) in
    let fits = c.requires.each c.from-place.result c.index-fibers-place.result at in
    subst (λ (n : ℕ). Fits (cell_registered c.args.registry.now.state n) c.index-fibers-place.result) (sym fits.number) fits
