use Rattle.std.{proofs.{Common.{◌≡◌, ℕ, subst, arith}, lemmas.{Bool.cases_order, Grind.common_steps, Option.{gets, slice_get_within}}}, specs.Prelude.Some}
use Rattle.std.specs.List.{slice_get}
use mathlib.Core.Logic.{inl, inr}
use Rattle.fair_ends.proofs.certificate.are_ranked.Goals as goal

pub is_ranked-requires-clause-row : goal.is_ranked-requires-clause-row
is_ranked-requires-clause-row g c = λ w at.
    let row = c.index-rows-index.result in
    let there : slice_get c.args.rows.now c.loop-index.index ≡ Some row = grind (arith, common_steps, gets) in
    c.requires.each c.loop-index.index row w there at

pub loop-index-preserved : goal.loop-index-preserved
loop-index-preserved g c = λ i a w low at there. elim (cases_order i c.loop-index.index) [
  | inl same ↦
      c.in_ok-is_ranked.ensures c.if-not-branch.false a w (subst (λ (k : ℕ). slice_get c.args.ranks.now k ≡ Some a) same at)
      (subst (λ (k : ℕ). slice_get (g.W.Worlds.worlds c.args.worlds.now) k ≡ Some w) same there)
  | inr order ↦ elim order [
    | inl less ↦ c.loop-index.invariant i a w less at there
    | inr more ↦ absurd (omega arith)
  ]
]

pub returns-clause-ranked : goal.returns-clause-ranked
returns-clause-ranked g c = λ yes i a w at there.
    let low = slice_get_within c.args.ranks.now i a at in
    c.loop-index.invariant i a w (omega arith) at there
