use Rattle.std.proofs.Common.{arith}
use Rattle.fair_ends.proofs.Fairly.{all_end}
use Rattle.fair_ends.proofs.deciding.judge.Goals as goal

pub returns-then-branch-clause-ends : goal.returns-then-branch-clause-ends
returns-then-branch-clause-ends g c = λ is laws first at s fair.
    let right = c.in_ok-are_ranked-in-None.ensures in
    let even = right.even c.if-branch.true in
    let some = c.requires.some in
    all_end g.W.Resting.entry g.W.Resting.free g.W.Worlds.step g.W.Resting.rests g.W.Worlds.most_born (g.W.Worlds.worlds c.args.worlds.now)
    c.as_slice-in-None.result.now (right.ranked c.if-branch.true) laws first s fair at (omega arith)
