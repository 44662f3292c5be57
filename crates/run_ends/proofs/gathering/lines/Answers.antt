use Rattle.std.proofs.Common.{◌+◌, ◌++◌, ◌∷◌, [], List, All, inr, refl, sym, ap, ◌∙◌, subst}
use Rattle.scheduled_core.specs.declared.report.FiberReport.{FiberReport}
use Rattle.run_ends.{specs.{Private.Gathered.AreLines, Gathering.IsLawful}, proofs.Lining.{all_push, least, more_lines}}
use Rattle.run_ends.proofs.gathering.lines.Goals as goal

pub returns-in_default-clause-lost : goal.returns-in_default-clause-lost
returns-in_default-clause-lost c =
    inr (c.loop-number.number, refl, least _ _ c.args.born _ c.loop-number.invariant.0 c.loop-number-test.true (rw c.in_default.is at c.find.ensures.nowhere))

pub loop-number-preserved : goal.loop-number-preserved
loop-number-preserved c =
    let i = c.loop-number.invariant in
    let a = more_lines _ _ _ _ i.0 (rw c.in-Some.is at c.find.ensures.found) in (
      subst (λ (l : List FiberReport). AreLines c.args.configs.now (c.loop-number.number + 1) l)
          (sym (c.in-Ok.ensures.items ∙ ap (λ (r : FiberReport). c.loop-number.lines.items ++ r ∷ []) c.in_ok-line.ensures.line)) a,
      subst (λ (l : List FiberReport). All IsLawful l) (sym c.in-Ok.ensures.items)
          (all_push IsLawful c.loop-number.lines.items c.in_ok-line.line i.1 c.in_ok-line.ensures.lawful),
    )
