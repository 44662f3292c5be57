-- Two worlds have the same report where their fibers have the same outcomes and the same marks that are kept.
use Rattle.std.proofs.Common.{◌≡◌, Bool, List, [], ◌∷◌, map, Option, refl, sym, ap, ap₂, ◌∙◌}
use Rattle.effect_term.specs.declared.reply.Outcome.{Outcome}
use Rattle.fiber_frames.specs.{declared.mark.Mark.Mark, Fiber.{Fiber, outcome_of}}
use Rattle.cell_registry.specs.declared.limits.Limits.{Limits}
use Rattle.scheduled_core.specs.{declared.report.{FiberReport.FiberReport, Report.Report}, Core.World}
use Rattle.every_outcome.specs.Places.{kept_marks, kept_report, marks_of, report_at, shown, unmarked_world}
use Rattle.every_outcome.proofs.Stepping.{report_stays}

abbrev with_marks : Option Outcome → List Mark → FiberReport
with_marks o ms = record { outcome = o; marks = ms }

abbrev report_of : List FiberReport → Report
report_of l = record { fibers = l }

outcomes_told : (says : Bool) (gs : List Fiber) → map (λ (r : FiberReport). r.outcome) (map (kept_report says) gs) ≡ map outcome_of gs
outcomes_told says [] = refl
outcomes_told says (g ∷ gs) = ap (λ (l : List (Option Outcome)). outcome_of g ∷ l) (outcomes_told says gs)

marks_told : (says : Bool) (gs : List Fiber) → map (λ (r : FiberReport). r.marks) (map (kept_report says) gs) ≡ map marks_of (map (shown says) gs)
marks_told says [] = refl
marks_told says (g ∷ gs) = ap (λ (l : List (List Mark)). kept_marks says g.marks ∷ l) (marks_told says gs)

module _ (says : Bool) where
  both_same : (xs ys : List Fiber) → map outcome_of xs ≡ map outcome_of ys → map marks_of (map (shown says) xs) ≡ map marks_of (map (shown says) ys) →
      map (kept_report says) xs ≡ map (kept_report says) ys
  both_same [] [] os ms = refl
  both_same [] (y ∷ ys) os ms = absurd (cc)
  both_same (x ∷ xs) [] os ms = absurd (cc)
  both_same (x ∷ xs) (y ∷ ys) os ms =
      let o : outcome_of x ≡ outcome_of y = cc in
      let m : kept_marks says x.marks ≡ kept_marks says y.marks = cc in
      let more : map outcome_of xs ≡ map outcome_of ys = cc in
      let rest : map marks_of (map (shown says) xs) ≡ map marks_of (map (shown says) ys) = cc in
      ap₂ (λ (r : FiberReport) (l : List FiberReport). r ∷ l) (ap₂ with_marks o m) (both_same xs ys more rest)

  module _ (k l : Limits) (v w : World) where
    abbrev one : Report
    one = report_at says record { limits = k; world = unmarked_world says v }

    abbrev other : Report
    other = report_at says record { limits = l; world = unmarked_world says w }

    pub same_reports : map outcome_of v.fibers ≡ map outcome_of w.fibers → map marks_of (map (shown says) v.fibers) ≡ map marks_of (map (shown says) w.fibers) →
        one ≡ other
    same_reports os ms = report_stays says k v ∙ ap report_of (both_same v.fibers w.fibers os ms) ∙ sym (report_stays says l w)

    alike : one ≡ other → map (kept_report says) v.fibers ≡ map (kept_report says) w.fibers
    alike e = ap (λ (r : Report). r.fibers) (sym (report_stays says k v) ∙ e ∙ report_stays says l w)

    pub same_outcomes : one ≡ other → map outcome_of v.fibers ≡ map outcome_of w.fibers
    same_outcomes e = sym (outcomes_told says v.fibers) ∙ ap (map (λ (r : FiberReport). r.outcome)) (alike e) ∙ outcomes_told says w.fibers

    pub same_marks : one ≡ other → map marks_of (map (shown says) v.fibers) ≡ map marks_of (map (shown says) w.fibers)
    same_marks e = sym (marks_told says v.fibers) ∙ ap (map (λ (r : FiberReport). r.marks)) (alike e) ∙ marks_told says w.fibers
