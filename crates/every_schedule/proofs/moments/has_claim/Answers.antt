use Rattle.std.proofs.Common.{get_or}
use Rattle.std.proofs.lemmas.Option.{slice_get-get_or}
use Rattle.every_schedule.proofs.moments.has_claim.Goals as goal

pub returns-then-met-number : goal.returns-then-met-number
returns-then-met-number c = λ yes.
    let met = c.args.met.now in
    let m = get_or met c.loop-number.number c.index-met-number.result in
    (m, (c.loop-number.number, slice_get-get_or met c.loop-number.number c.index-met-number.result c.loop-number-test.true), c.if-met-number.true)
