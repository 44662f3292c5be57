use Rattle.std.proofs.Common.{length, refl, sym, ap, ◌∙◌, arith}
use Rattle.std.proofs.lemmas.List.{take_all}
use Rattle.std.proofs.lemmas.Option.{slice_get_read}
use Rattle.std.specs.List.{list_all}
use Rattle.every_schedule.specs.Private.Stopping.{ends}
use Rattle.every_schedule.proofs.Prefixes.{all_next, all_stops}
use Rattle.every_schedule.proofs.progress.all_end.Goals as goal

pub loop-config-preserved : goal.loop-config-preserved
loop-config-preserved c =
    let g = c.config-item.result in
    let here = slice_get_read c.args.fibers.now (length c.args.fibers.now) c.loop-config.config-index g refl c.loop-config-test.true c.config-item.is in
    all_next ends c.args.fibers.now c.loop-config.config-index g here c.loop-config.invariant (sym c.ends.ensures ∙ c.if-not-ends.false)

pub returns-then-not-ends : goal.returns-then-not-ends
returns-then-not-ends c =
    let g = c.config-item.result in
    let here = slice_get_read c.args.fibers.now (length c.args.fibers.now) c.loop-config.config-index g refl c.loop-config-test.true c.config-item.is in
    sym (all_stops ends c.args.fibers.now c.loop-config.config-index g here (sym c.ends.ensures ∙ c.if-not-ends.true))

pub returns : goal.returns
returns c =
    sym (ap (list_all ends) (sym (take_all c.loop-config.config-index c.args.fibers.now (omega arith))) ∙ c.loop-config.invariant)
