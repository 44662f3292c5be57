use Rattle.std.proofs.{Common.{◌≡◌, ◌++◌, List, [], ◌∷◌, length, map, sym, ap, ◌∙◌, append_assoc, append-nil, arith, rules}, lemmas.List.Elements.All-push}
use Rattle.std.{proofs.lemmas.List.Elements.All-same, specs.Vec.Iter.into_iter_items}
use Rattle.fiber_frames.specs.{Fiber.Fiber, Marks.AreLawful}
use Rattle.scheduled_core.specs.{declared.report.FiberReport.FiberReport, Core.fiber_report}
use Rattle.scheduled_core.proofs.reports.report_of_fibers.Goals as goal

nothing_left : {X : Type 0} (l : List X) → length l ≡ 0 → l ≡ []
nothing_left [] h = cc
nothing_left (x ∷ xs) h = absurd (omega arith)

pub loop-fiber-preserved : goal.loop-fiber-preserved
loop-fiber-preserved c =
    let at = c.loop-fiber in
    let x = c.in-Some.fiber in
    let it = c.fiber_report.result in
    let rest = into_iter_items c.next.new.self in
    let steps : into_iter_items at.fiber-iterator ≡ x ∷ rest = c.in-Some.ensures.steps.0 in
    let pushed : c.push.new.self.items ≡ at.reports.items ++ it ∷ [] = search rules in
    record {
      told = ap (λ (told : List FiberReport). told ++ map fiber_report rest) pushed
          ∙ append_assoc at.reports.items (it ∷ []) (map fiber_report rest)
          ∙ ap (λ (told : FiberReport). at.reports.items ++ told ∷ map fiber_report rest) c.fiber_report.ensures.told
          ∙ ap (λ (fibers : List Fiber). at.reports.items ++ map fiber_report fibers) (sym steps)
          ∙ at.invariant.told;
      left = let was = at.invariant.left in
          let gone = c.in-Some.ensures.steps.1 in
          let short = ap length steps in
          omega arith;
      lawful = All-same (λ (f : FiberReport). AreLawful f.marks f.outcome) _ _ pushed
          (All-push (λ (f : FiberReport). AreLawful f.marks f.outcome) at.reports.items it at.invariant.lawful c.fiber_report.ensures.lawful);
    }

pub returns-clause-reports : goal.returns-clause-reports
returns-clause-reports c =
    let at = c.loop-fiber in
    let empty : into_iter_items at.fiber-iterator ≡ [] = nothing_left _ (sym at.invariant.left ∙ c.in-None.ensures.steps.0) in
    ap (λ (fibers : List FiberReport). record { fibers = fibers })
    (c.new.ensures ∙ sym (append-nil at.reports.items) ∙ ap (λ (fibers : List Fiber). at.reports.items ++ map fiber_report fibers) (sym empty) ∙
    at.invariant.told)

pub returns-clause-lawful : goal.returns-clause-lawful
returns-clause-lawful c = All-same (λ (f : FiberReport). AreLawful f.marks f.outcome) c.new.result c.loop-fiber.reports.items c.new.ensures
    c.loop-fiber.invariant.lawful
