use Rattle.std.{proofs.{Common.{◌≡◌, ◌++◌, ℕ, Some, sym, ap, ◌∙◌, arith, subst}, lemmas.{Grind.common_steps, Option.gets}}, specs.List.slice_get}
use Rattle.scheduled_core.specs.{Fitting.{Fits, cell_registered}, Whys.IsWhy}
use Rattle.reasons.{specs.Whys.why_line, proofs.Settled.{all_told, told_more}}
use Rattle.reasons.proofs.unended.why_lines.Goals as goal

pub why_of-requires : goal.why_of-requires
why_of-requires c =
    let at : slice_get c.args.fibers.now c.loop-config.config-index ≡ Some c.config-item.result = grind (arith, common_steps, gets) in
    let fits = c.requires.each c.loop-config.config-index c.config-item.result at in
    subst (λ (n : ℕ). Fits (cell_registered c.args.registry.now.state n) c.config-item.result) (sym fits.number) fits

pub loop-config-preserved : goal.loop-config-preserved
loop-config-preserved c =
    let g = c.config-item.result in
    let s = c.args.registry.now.state in
    let i = c.loop-config.config-index in
    let last = c.is_final-last.result in
    let at : slice_get c.args.fibers.now i ≡ Some g = grind (arith, common_steps, gets) in
    let number = (c.requires.each i g at).number in
    told_more last s c.args.fibers.now i g c.why_of.result c.loop-config.told.items c.push_why.new.told.items (omega arith) c.config-item.is
    (subst (λ n. IsWhy s n g c.why_of.result) number c.why_of.ensures)
    (c.in_ok-push_why.ensures ∙ ap (λ n. c.loop-config.told.items ++ why_line last n c.why_of.result) (c.number.ensures ∙ number))
    c.loop-config.invariant

pub returns : goal.returns
returns c =
    let s = c.args.registry.now.state in
    let last = c.is_final-last.result in
    (last, c.is_final-last.ensures, all_told last s c.args.fibers.now c.loop-config.config-index c.loop-config.told.items (omega arith) c.loop-config.invariant)
