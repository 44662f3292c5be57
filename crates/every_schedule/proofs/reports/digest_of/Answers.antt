use Rattle.std.{proofs.{Common.{ap, ◌∙◌, arith}, lemmas.List.take_all}, specs.List.fold}
use Rattle.every_schedule.{specs.Private.Reporting.with_state, proofs.Digesting.with_states}
use Rattle.every_schedule.proofs.reports.digest_of.Goals as goal

pub returns : goal.returns
returns c =
    let fs = c.args.pool.now.items.items in
    let end = c.loop-number-test.false in
    c.loop-number.invariant ∙ ap (fold (with_state fs) 1) (take_all c.loop-number.number-index c.args.numbers.now (omega arith))
    ∙ with_states fs 1 c.args.numbers.now
