use Rattle.std.proofs.{Common.{◌≡◌, List, Option, rules, sym, ap, ap₂, ◌∙◌}, lemmas.Bool.Decides.not_from_Decides}
use Rattle.effect_term.specs.declared.reply.Outcome.{Outcome}
use Rattle.fiber_frames.specs.declared.mark.Mark.{Mark}
use Rattle.scheduled_core.{specs.declared.report.FiberReport.FiberReport, proofs.SameReports.marks_decide}
use Rattle.sampled_schedules.proofs.ends.ended_alike.Goals as goal

told : Option Outcome → List Mark → FiberReport
told o ms = record { outcome = o; marks = ms }

pub returns-then-eq-clause-same : goal.returns-then-eq-clause-same
unfolding told
returns-then-eq-clause-same c = λ is.
    let same : c.as_slice.result.now ≡ c.as_slice-then-eq.result.now =
    (marks_decide c.as_slice.result.now c.as_slice-then-eq.result.now c.eq-then-eq.result c.eq-then-eq.ensures).0 is in
    let marks : c.args.one.now.marks ≡ c.args.other.now.marks = sym c.as_slice.ensures ∙ same ∙ c.as_slice-then-eq.ensures in
    let outcomes : c.args.one.now.outcome ≡ c.args.other.now.outcome = search rules in
    ap₂ told outcomes marks

pub returns-then-eq-clause-other : goal.returns-then-eq-clause-other
returns-then-eq-clause-other c = λ is same.
    not_from_Decides c.eq-then-eq.result (marks_decide c.as_slice.result.now c.as_slice-then-eq.result.now c.eq-then-eq.result c.eq-then-eq.ensures) is
    (c.as_slice.ensures ∙ ap (λ (f : FiberReport). f.marks) same ∙ sym c.as_slice-then-eq.ensures)
