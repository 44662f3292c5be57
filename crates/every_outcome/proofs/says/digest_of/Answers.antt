use Rattle.std.{proofs.{Common.{sym, ap, ◌∙◌, arith}, lemmas.List.{take_all, Folds.fold-map}}, specs.List.fold}
use Rattle.every_schedule.specs.Digests.{with_report}
use Rattle.every_outcome.specs.Places.{kept_report, with_says}
use Rattle.every_outcome.proofs.says.digest_of.Goals as goal

pub returns : goal.returns
returns c =
    let says = with_says c.args.search in
    let end = c.loop-fiber-test.false in
    c.loop-fiber.invariant ∙ ap (fold (λ d g. with_report d (kept_report says g)) 1) (take_all c.loop-fiber.fiber-index c.args.fibers.now (omega arith))
    ∙ sym (fold-map with_report (kept_report says) 1 c.args.fibers.now)
