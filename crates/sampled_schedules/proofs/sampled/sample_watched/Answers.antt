use Rattle.std.{proofs.Common.{◌≡◌, ◌+◌, true, false, List, refl, sym, ap, ◌∙◌, subst, arith}, specs.List.All}
use Rattle.derived_ops.specs.{Expansion.code_of, Reading.source_of}
use Rattle.fiber_frames.specs.Fiber.{Fiber}
use Rattle.cell_registry.specs.Cells.{opening}
use Rattle.scheduled_core.specs.Fitting.{AllFit, world_of}
use Rattle.every_schedule.specs.Explored.{HasLawfulMarks}
use Rattle.sampled_schedules.specs.{declared.comings.Coming.Coming, Sampled.{IsCutShort, IsDrawing, IsDrawn, IsSampleOf, StaysSo}, Private.Noting.came_in_all}
use Rattle.sampled_schedules.proofs.{Drawings.{cut_told, final_told, nothing_sampled, sampled_more}, Tallies.{all_noted, counted}}
use Rattle.sampled_schedules.proofs.sampled.sample_watched.Goals as goal

pub draw-requires-clause-fits : goal.draw-requires-clause-fits
draw-requires-clause-fits g c =
    subst (λ (fs : List Fiber). AllFit (world_of fs (opening c.args.limits))) (sym c.as_slice.ensures.value)
    (c.in_ok-first.ensures.fits c.args.limits c.requires.limits)

pub loop-schedules-preserved : goal.loop-schedules-preserved
loop-schedules-preserved g c =
    let at = c.loop-schedules.invariant in
    let code = code_of (source_of c.args.program.now) in
    let k = c.args.limits in
    let most = c.args.entries in
    let cs = c.loop-schedules.comings.items in
    let a = c.in-Some.drawn in
    let ds = c.note.new.comings.items in
    let its = rw c.in-Some.is at c.in_ok-draw.ensures.drawn in
    let marks = rw c.in-Some.is at c.in_ok-draw.ensures.lawful in
    let drawn : IsDrawing code k most a = its code (c.as_slice.ensures.value ∙ c.in_ok-first.ensures.first) in
    record {
      sample = sampled_more code k most c.loop-schedules.schedules cs a ds at.sample drawn c.in_ok-note-in-Some.ensures;
      answers = all_noted (IsDrawn code k most) cs a ds c.in_ok-note-in-Some.ensures at.answers drawn.drawn;
      lawful = all_noted HasLawfulMarks cs a ds c.in_ok-note-in-Some.ensures at.lawful marks;
      counted = counted cs a ds c.in_ok-note-in-Some.ensures ∙ ap (λ n. n + 1) at.counted;
      few = omega arith;
      watches = c.draw.ensures.watches ∙ at.watches;
    }

pub loop-schedules-init : goal.loop-schedules-init
loop-schedules-init g c =
    let code = code_of (source_of c.args.program.now) in
    let k = c.args.limits in
    let most = c.args.entries in
    let none = c.new-comings.ensures.items in
    record {
      sample = subst (λ (cs : List Coming). IsSampleOf code k most 0 cs) (sym none) (nothing_sampled code k most);
      answers = subst (λ (cs : List Coming). All (λ (x : Coming). IsDrawn code k most x.answer) cs) (sym none) (λ i d low. absurd (omega arith));
      lawful = subst (λ (cs : List Coming). All (λ (x : Coming). HasLawfulMarks x.answer) cs) (sym none) (λ i d low. absurd (omega arith));
      counted = ap came_in_all none;
      few = omega arith;
      watches = refl;
    }

pub returns-clause-uncut : goal.returns-clause-uncut
returns-clause-uncut g c =
    let code = code_of (source_of c.args.program.now) in
    let k = c.args.limits in
    subst (λ (cs : List Coming). All (λ (x : Coming). x.cut ≡ false → StaysSo code k x.answer.end) cs) (sym c.new.ensures)
    (final_told code k c.args.entries c.loop-schedules.schedules c.loop-schedules.comings.items c.loop-schedules.invariant.sample)

pub returns-clause-cut : goal.returns-clause-cut
returns-clause-cut g c =
    let code = code_of (source_of c.args.program.now) in
    let k = c.args.limits in
    subst (λ (cs : List Coming). All (λ (x : Coming). x.cut ≡ true → IsCutShort c.args.entries x.answer) cs) (sym c.new.ensures)
    (cut_told code k c.args.entries c.loop-schedules.schedules c.loop-schedules.comings.items c.loop-schedules.invariant.sample)
