use Rattle.std.proofs.Common.{◌<◌, length, sym, ◌∙◌, arith}
use Rattle.every_schedule.specs.Private.Standing.{here}
use Rattle.every_schedule.proofs.Sets.{stand_fails, stand_next, stand_none}
use Rattle.every_schedule.proofs.persistent.is_persistent.Goals as goal

pub loop-place-init : goal.loop-place-init
loop-place-init c = stand_none (here c.args.current.now).world c.args.set.now

pub returns-then-not-stands : goal.returns-then-not-stands
returns-then-not-stands c =
    let w = (here c.args.current.now).world in
    let i = c.loop-place.place in
    let born = c.few_born-place-end.ensures.born in
    let low : i < length w.fibers = omega arith in
    sym (stand_fails w c.args.set.now i (length w.fibers) low (sym c.stands_if_in-stands.ensures ∙ c.if-not-stands.true))

pub loop-place-preserved : goal.loop-place-preserved
loop-place-preserved c =
    stand_next (here c.args.current.now).world c.args.set.now c.loop-place.place c.loop-place.invariant
    (sym c.stands_if_in-stands.ensures ∙ c.if-not-stands.false)
