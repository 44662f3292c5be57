use Rattle.std.proofs.Common.{◌<◌, ◌≤◌, ◌∙◌, ℕ, List, length, sym, subst, arith}
use Rattle.std.specs.List.{All}
use Rattle.derived_ops.specs.Expansion.{code_of}
use Rattle.derived_ops.specs.Reading.{source_of}
use Rattle.fiber_frames.specs.Fiber.{Fiber}
use Rattle.cell_registry.specs.Cells.{opening}
use Rattle.scheduled_core.specs.Fitting.{AllFit, world_of}
use Rattle.world_search.specs.declared.claims.Met.{Met}
use Rattle.world_search.specs.Claims.{IsBrief, IsFew}
use Rattle.every_schedule.specs.Claims.{IsMetIn, MeetsOnTheWay}
use Rattle.sampled_schedules.specs.Sampled.{IsDrawing}
use Rattle.sampled_schedules.proofs.Claims.{looks_more, looks_none}
use Rattle.sampled_schedules.proofs.claimed.sample_claims.Goals as goal

pub draw_whole-requires-clause-fits : goal.draw_whole-requires-clause-fits
draw_whole-requires-clause-fits c =
    subst (λ (fs : List Fiber). AllFit (world_of fs (opening c.args.limits))) (sym c.as_slice.ensures.value)
    (c.in_ok-first.ensures.fits c.args.limits c.requires.limits)

pub loop-schedules-init : goal.loop-schedules-init
loop-schedules-init c =
    let code = code_of (source_of c.args.program.now) in
    let k = c.args.limits in
    let none = c.new-met.ensures.items in
    record {
      met = subst (λ (ms : List Met). All (IsMetIn code k c.args.claims.now) ms) (sym none) (λ i d low. absurd (omega arith));
      looked = looks_none code k c.args.entries c.args.claims.now c.new-met.result.items;
      few = subst (λ (ms : List Met). All (IsFew 1000) ms) (sym none) (λ i d low. absurd (omega arith));
      brief = subst (λ (ms : List Met). All (IsBrief c.args.entries) ms) (sym none) (λ i d low. absurd (omega arith));
      within = omega arith;
    }

pub loop-schedules-preserved : goal.loop-schedules-preserved
loop-schedules-preserved c =
    let known = c.loop-schedules.invariant in
    let code = code_of (source_of c.args.program.now) in
    let k = c.args.limits in
    let d = c.in_ok-drawn.drawn in
    let old = c.loop-schedules.met.items in
    let new = c.note_met.new.met.items in
    let drawing : IsDrawing code k c.args.entries d = c.in_ok-drawn.ensures.drawn code (c.as_slice.ensures.value ∙ c.in_ok-first.ensures.first) in
    let noted = c.in_ok-note_met.ensures in
    let same = c.as_slice-schedule.ensures in
    record {
      met = noted.met known.met;
      looked = looks_more code k c.args.entries c.args.claims.now c.loop-schedules.schedules old new d known.looked drawing noted.kept
          (λ i words is m. noted.looked i words is (subst (λ (s : List ℕ). MeetsOnTheWay code k words s) (sym same) m));
      few = noted.few (subst (λ (s : List ℕ). All (λ f. f < 1000) s) (sym same) drawing.drawn.numbers) known.few;
      brief = noted.brief c.args.entries (subst (λ (s : List ℕ). length s ≤ c.args.entries) (sym same) drawing.drawn.short) known.brief;
      within = omega arith;
    }

pub loop-schedules-preserved-in_ok-note_met : goal.loop-schedules-preserved-in_ok-note_met
loop-schedules-preserved-in_ok-note_met c =
    let known = c.loop-schedules.invariant in
    let code = code_of (source_of c.args.program.now) in
    let k = c.args.limits in
    let d = c.in_ok-drawn.drawn in
    let old = c.loop-schedules.met.items in
    let new = c.note_met.new.met.items in
    let drawing : IsDrawing code k c.args.entries d = c.in_ok-drawn.ensures.drawn code (c.as_slice.ensures.value ∙ c.in_ok-first.ensures.first) in
    let noted = c.in_ok-note_met.ensures in
    let same = c.as_slice-schedule.ensures in
    record {
      met = noted.met known.met;
      looked = looks_more code k c.args.entries c.args.claims.now c.loop-schedules.schedules old new d known.looked drawing noted.kept
          (λ i words is m. noted.looked i words is (subst (λ (s : List ℕ). MeetsOnTheWay code k words s) (sym same) m));
      few = noted.few (subst (λ (s : List ℕ). All (λ f. f < 1000) s) (sym same) drawing.drawn.numbers) known.few;
      brief = noted.brief c.args.entries (subst (λ (s : List ℕ). length s ≤ c.args.entries) (sym same) drawing.drawn.short) known.brief;
      within = omega arith;
    }
