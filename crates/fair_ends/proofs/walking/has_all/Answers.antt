use Rattle.std.proofs.{Common.{◌≡◌, length, subst, sym, ◌∙◌, arith}, lemmas.{Bool.cases_order, Grind.common_steps, Option.{gets, same_Some, slice_get_within}}}
use Rattle.std.specs.{Prelude.Some, List.slice_get}
use mathlib.Core.Logic.{◌⊎◌, inl, inr}
use Rattle.world_search.specs.Lists.{IsIn}
use Rattle.fair_ends.specs.{declared.table.Edge.Edge, Private.Tables.IsStill}
use Rattle.fair_ends.proofs.walking.has_all.Goals as goal

pub loop-fiber-preserved : goal.loop-fiber-preserved
loop-fiber-preserved c = λ f e low at.
    let n = c.loop-fiber.fiber in
    let edge = c.index-edges-fiber.result in
    let there : slice_get c.args.row.now.edges.items n ≡ Some edge = grind (arith, common_steps, gets) in
    elim (cases_order f n) [
      | inl same ↦
          let one : edge ≡ e = same_Some edge e (sym there ∙ subst (λ k. slice_get c.args.row.now.edges.items k ≡ Some e) same at) in
          subst (λ k. IsIn k c.args.entries.now ⊎ IsStill c.args.begins k e) (sym same)
          (subst (λ (x : Edge). IsIn n c.args.entries.now ⊎ IsStill c.args.begins n x) one (c.comes.ensures c.if-not-comes.false))
      | inr order ↦ elim order [
        | inl less ↦ c.loop-fiber.invariant f e less at
        | inr more ↦ absurd (omega arith)
      ]
    ]

pub returns : goal.returns
returns c = λ yes f e at.
    let low = slice_get_within c.args.row.now.edges.items f e at in
    let many : length c.as_slice-edges.result.now ≡ length c.args.row.now.edges.items = grind (arith, common_steps, gets) in
    c.loop-fiber.invariant f e (omega arith) at
