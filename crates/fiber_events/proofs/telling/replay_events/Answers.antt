use Rattle.std.proofs.Common.{◌≡◌, List, sym, ap, ◌∙◌, subst}
use Rattle.derived_ops.specs.{Expansion.code_of, Reading.source_of}
use Rattle.fiber_frames.specs.Fiber.{Fiber}
use Rattle.cell_registry.specs.{Cells.{Cells, opening}, Plain.PlainView}
use Rattle.scheduled_core.specs.{Core.first_world, Fitting.{AllFit, world_of}}
use Rattle.fiber_events.{specs.{declared.event.Event.Event, Events.AreEvents, Private.Telling.IsCourse}, proofs.Courses.end_told}
use Rattle.fiber_events.proofs.telling.replay_events.Goals as goal

pub tell_entries-requires-clause-fits : goal.tell_entries-requires-clause-fits
tell_entries-requires-clause-fits c =
    let opened : opening c.args.limits ≡ c.in_ok-registry.registry.state = ap (λ (r : PlainView). r.state) (sym c.in_ok-registry.ensures.opening) in
    subst (λ (cells : Cells). AllFit (world_of c.in_ok-fibers.fibers.items cells)) opened (c.in_ok-fibers.ensures.fits c.args.limits c.requires.limits)

pub returns : goal.returns
returns c =
    let code = code_of (source_of c.args.program.now) in
    let v = world_of c.tell_entries.new.fibers.items c.tell_entries.new.registry.state in
    let begun = subst (λ (r : PlainView). IsCourse r.limits (world_of c.in_ok-fibers.fibers.items r.state) c.args.schedule.now c.in_ok-course.course
    v) c.in_ok-registry.ensures.opening c.in_ok-course.ensures in
    let course : IsCourse c.args.limits (first_world code c.args.limits) c.args.schedule.now c.in_ok-course.course v =
    subst (λ (fs : List Fiber). IsCourse c.args.limits (world_of fs (opening c.args.limits)) c.args.schedule.now c.in_ok-course.course v)
    c.in_ok-fibers.ensures.first begun in
    record {
      told = record {
        events = subst (λ (es : List Event). AreEvents c.args.limits (first_world code c.args.limits) c.args.schedule.now es) (sym c.new.ensures) course.events;
        made = course.made;
        end = c.in_ok-end_of.ensures ∙
            end_told code c.args.limits c.args.schedule.now c.tell_entries.new.fibers.items c.tell_entries.new.registry.state
            c.in_ok-course.course.fault course.end;
      };
    }
