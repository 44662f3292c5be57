use Rattle.std.proofs.Common.{arith, refl}
use Rattle.every_schedule.proofs.SeenRows.{view_rests}
use Rattle.every_schedule.proofs.seen_worlds.SeenWorldsWorlds.born.Goals as goal

pub returns-clause-rests : goal.returns-clause-rests
returns-clause-rests c = λ w at f past.
    let born = c.many.ensures.born w at in
    view_rests w w.place w.seen f refl (omega arith)
