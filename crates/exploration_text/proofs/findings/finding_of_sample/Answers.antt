use Rattle.std.{proofs.Common.{◌≡◌, ◌∙◌, ap, arith, refl, sym, subst, Some as There}, specs.List.slice_get}
use Rattle.derived_ops.specs.{Expansion.code_of, Reading.source_of}
use Rattle.scheduled_core.specs.Core.{core, reported}
use Rattle.exploration_text.{specs.Findings.Shows, proofs.{FirstFindings.drawn_found, Sampled.spellable}}
use Rattle.exploration_text.proofs.findings.finding_of_sample.Goals as goal

pub returns-clause-drawn : goal.returns-clause-drawn
returns-clause-drawn g c =
    let order = c.args.order.now in
    let code = code_of (source_of c.args.program.now) in
    let k = order.limits in
    let shown = c.in-Some.ensures in
    let there = subst (λ cs. slice_get cs shown.0 ≡ There c.in-Some.coming.now) c.as_slice.ensures shown.1 in
    let shows = subst (λ ws. Shows ws c.args.entries c.in-Some.coming.now.answer c.in-Some.last) c.as_slice-wants.ensures.value shown.2 in
    let same = c.in_ok-replayed.ensures.schedule ∙ c.as_slice-schedule.ensures in
    let ends = ap (λ s. reported (core code k s)) (sym c.as_slice-schedule.ensures) ∙ c.in_ok-replayed.ensures.end in
    let spelled = spellable c.in-Ok.found.comings c.args.entries (omega (arith, c.requires, order.entries)) c.in-Ok.ensures.numbers c.in-Ok.ensures.short in
    let found = drawn_found code k order.wants.items c.args.entries shown.0 c.in-Ok.found.comings c.in-Some.coming.now c.in_ok-replayed.field-0 c.in-Some.last there
    shows c.in-Ok.ensures.each c.in-Ok.ensures.stays spelled same ends in
    (found, refl)
