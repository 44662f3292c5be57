use Rattle.std.proofs.Common.{◌+◌, sym, subst, arith}
use Rattle.world_search.proofs.Lists.{more_back, more_long, more_more}
use Rattle.fair_ends.{specs.Private.Tables.AreEdges, proofs.Rows.{edges_more, edges_next, lands_on, row_of}}
use Rattle.fair_ends.proofs.table.row_at.Goals as goal

pub loop-fiber-preserved : goal.loop-fiber-preserved
loop-fiber-preserved g c =
    let known = c.loop-fiber.invariant in
    let told = c.in_ok-step.ensures in
    let entry = g.W.Resting.entry in
    let Free = g.W.Resting.free in
    let step = g.W.Worlds.step in
    let most = g.W.Worlds.most_born in
    let ws = g.W.Worlds.worlds c.loop-fiber.worlds in
    let vs = g.W.Worlds.worlds c.make.new.self in
    let long = more_long ws vs told.worlds in
    record {
      grows = more_more (g.W.Worlds.worlds c.args.worlds.now) ws vs known.grows told.worlds;
      low = (let a = known.low in omega arith);
      edges = λ w at.
          let before = more_back ws vs c.args.index w told.worlds known.low at in
          subst (λ l. AreEdges entry Free step most vs (c.loop-fiber.fiber + 1) w l) (sym c.in_ok-push-in-Some.ensures.items)
          (edges_next entry Free step most vs c.loop-fiber.fiber w c.loop-fiber.edges.items _
          (edges_more entry Free step most ws vs c.loop-fiber.fiber w c.loop-fiber.edges.items told.worlds (known.edges w before))
          (record {
            lands = lands_on entry Free step most vs (g.W.Worlds.faults c.make.new.self) c.in_ok-step.step.to c.in-Some.target
                (step w c.loop-fiber.fiber) c.in-Some.ensures (told.lands w before);
            makes = told.makes w before;
          }));
    }

pub returns-clause-row : goal.returns-clause-row
returns-clause-row g c = λ w at.
    let known = c.loop-fiber.invariant in
    let ws = g.W.Worlds.worlds c.loop-fiber.worlds in
    let before = more_back (g.W.Worlds.worlds c.args.worlds.now) ws c.args.index w known.grows c.requires at in
    row_of g.W.Resting.entry g.W.Resting.free g.W.Worlds.step g.W.Worlds.most_born ws w (record { edges = c.loop-fiber.edges }) c.loop-fiber.fiber
    (known.edges w at)
    (let few = c.many-born.ensures.many in omega arith)
    (λ f past. c.many-born.ensures.none w before f (omega arith))
