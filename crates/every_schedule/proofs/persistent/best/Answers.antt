use Rattle.std.proofs.Common.{◌-◌, length, sym, ◌∙◌, arith}
use Rattle.every_schedule.specs.Private.Standing.{here}
use Rattle.every_schedule.proofs.Seeds.{best_ends}
use Rattle.every_schedule.proofs.Sets.{best_first}
use Rattle.every_schedule.proofs.persistent.best.Goals as goal

pub loop-place-init : goal.loop-place-init
loop-place-init c = best_first (here c.args.current.now).world

pub returns-then-not-is_fewer : goal.returns-then-not-is_fewer
returns-then-not-is_fewer c =
    let w = (here c.args.current.now).world in
    let i = c.loop-place.place in
    let born = c.few_born-place-end.ensures.born in
    let least = sym c.is_fewer.ensures ∙ c.if-not-is_fewer.true in
    best_ends w c.loop-place.best least i (length w.fibers - i) (length w.fibers) (omega arith) (omega arith) c.loop-place.invariant
