use Rattle.std.proofs.Common.{arith}
use Rattle.every_schedule.proofs.progress.is_requested.Goals as goal

pub is_requested-requires : goal.is_requested-requires
is_requested-requires c =
    let most = c.limits.ensures.lawful.sound.next_fiber in
    let born = c.requires.born in
    let same = c.number.ensures in
    omega arith
