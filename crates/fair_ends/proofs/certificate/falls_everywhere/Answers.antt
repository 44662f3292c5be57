use Rattle.std.{proofs.{Common.{◌≡◌, length, subst, sym, arith}, lemmas.{Bool.cases_order, Grind.common_steps, Option.gets}}, specs.Prelude.Some}
use Rattle.std.specs.List.{slice_get}
use mathlib.Core.Logic.{inl, inr}
use Rattle.fair_ends.{specs.Private.Ranks.LeadsOn, proofs.Ranked.leads_row}
use Rattle.fair_ends.proofs.certificate.falls_everywhere.Goals as goal

pub loop-fiber-preserved : goal.loop-fiber-preserved
loop-fiber-preserved g c = λ f a w low at here.
    let n = c.loop-fiber.fiber in
    let edge = c.index-edges-fiber.result in
    let row = c.requires.row w here in
    let there : slice_get c.args.row.now.edges.items n ≡ Some edge = grind (arith, common_steps, gets) in
    let is = row.each n edge there in
    elim (cases_order f n) [
      | inl same ↦
          subst (λ k. LeadsOn g.W.Resting.entry g.W.Resting.free g.W.Worlds.step g.W.Resting.rests g.W.Worlds.most_born (g.W.Worlds.worlds c.args.worlds.now)
          c.args.ranks.now a w k) (sym same)
          (edge.made.items, is.makes, c.passes.ensures c.if-not-passes.false a at (g.W.Worlds.step w n) is.lands)
      | inr order ↦ elim order [
        | inl less ↦ c.loop-fiber.invariant f a w less at here
        | inr more ↦ absurd (omega arith)
      ]
    ]

pub returns-clause-leads : goal.returns-clause-leads
returns-clause-leads g c = λ yes a w at here.
    let row = c.requires.row w here in
    let many : length c.as_slice-edges.result.now ≡ length c.args.row.now.edges.items = grind (arith, common_steps, gets) in
    leads_row g.W.Resting.entry g.W.Resting.free g.W.Worlds.step g.W.Resting.rests g.W.Worlds.most_born (g.W.Worlds.worlds c.args.worlds.now)
    c.args.ranks.now c.args.index a w c.args.row.now at here row
    (let helps = c.is_helped.ensures c.if-not-is_helped.false a at in omega arith)
    (λ f low. c.loop-fiber.invariant f a w (omega arith) at here)
