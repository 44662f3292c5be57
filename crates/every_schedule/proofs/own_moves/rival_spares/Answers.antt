use Rattle.std.proofs.Common.{◌<◌, length, sym, ◌∙◌, arith}
use Rattle.world_search.proofs.Lists.{get_low}
use Rattle.every_schedule.specs.Reduced.{keeps}
use Rattle.every_schedule.specs.Private.Standing.{here}
use Rattle.every_schedule.proofs.Alone.{given_kept, one_fails}
use Rattle.every_schedule.proofs.own_moves.rival_spares.Goals as goal

pub returns-else-place-born-clause-uses : goal.returns-else-place-born-clause-uses
returns-else-place-born-clause-uses c = λ out.
    let w = (here c.args.current.now).world in
    let u = c.args.what in
    let n = c.args.number in
    let f = c.args.by in
    let i = c.rival-place.result in
    let long = c.born.ensures in
    let low : i < length w.fibers = omega arith in
    let b = get_low w.fibers i low in
    given_kept u w f n c.requires.given ∙ one_fails (keeps u n) f w.fibers i b.0 b.1 (sym (c.spares.ensures.spares b.0 b.1) ∙ out)
