use Rattle.std.proofs.Common.{length, ◌<◌, arith}
use Rattle.world_search.proofs.Lists.{get_low}
use Rattle.fair_ends.proofs.Ranked.{leads_falls}
use Rattle.fair_ends.proofs.certificate.passes.Goals as goal

pub returns-else-ranks-to : goal.returns-else-ranks-to
returns-else-ranks-to g c = λ yes a at y on.
    let low : c.args.edge.now.target < length c.args.ranks.now = omega (arith, c.requires.even, c.len.ensures) in
    let next = get_low c.args.ranks.now c.args.edge.now.target low in
    leads_falls g.W.Resting.entry g.W.Resting.free g.W.Worlds.step g.W.Resting.rests g.W.Worlds.most_born (g.W.Worlds.worlds c.args.worlds.now)
    c.args.ranks.now a next.0 c.args.fiber c.args.edge.now.target c.args.edge.now.made.items y on (λ is. absurd (omega arith)) next.1
    (c.falls.ensures yes a next.0 at next.1)
