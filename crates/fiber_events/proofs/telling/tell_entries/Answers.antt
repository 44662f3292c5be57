use Rattle.std.proofs.{Common.{◌≡◌, ℕ, ◌+◌, List, [], inl, inr, get_or, take, length, Ok, Err, refl, sym, ap, ◌∙◌, subst, arith, ◌≤◌}, lemmas.List.take_all}
use Rattle.std.specs.{Prelude.{Some, Result}, Option.option_to_list}
use Rattle.cell_registry.specs.declared.limits.{Limits.Limits, RunError.RunError}
use Rattle.scheduled_core.specs.{Fitting.world_of, Core.{World, entered}}
use Rattle.fiber_events.{specs.{declared.event.Event.Event, Events.{AreEvents, IsEntry, all, led, no_entry}}, proofs.Courses.{events_more, led_more}}
use Rattle.fiber_events.proofs.Courses.{stopped_course}
use Rattle.cell_registry.specs.declared.limits.RunError.TheVariants as run
use Rattle.fiber_events.proofs.telling.tell_entries.Goals as goal

pub loop-made-init : goal.loop-made-init
loop-made-init c = record {
  limits = refl;
  fits = c.requires.fits;
  same = c.requires.same;
  goes = refl;
  events = subst (λ (es : List Event). AreEvents c.args.registry.now.limits (world_of c.args.fibers.now.items c.args.registry.now.state) [] es)
      (sym c.new-events.ensures.items) no_entry;
}

pub loop-made-preserved : goal.loop-made-preserved
loop-made-preserved c =
    let known = c.loop-made.invariant in
    let told = c.in-Ok.ensures in
    let k = c.args.registry.now.limits in
    let w = world_of c.args.fibers.now.items c.args.registry.now.state in
    let s = c.args.schedule.now in
    let i = c.loop-made.made in
    let number = get_or s i 0 in
    let before = world_of c.loop-made.fibers.items c.loop-made.registry.state in
    let here : IsEntry k (i + 1) number (Ok before) (option_to_list c.in-Ok.event) =
    subst (λ (l : Limits). IsEntry l (i + 1) number (Ok before) (option_to_list c.in-Ok.event)) known.limits told.told in
    let there : IsEntry k (i + 1) number (led k w (take i s)) (option_to_list c.in-Ok.event) =
    subst (λ (x : Result World RunError). IsEntry k (i + 1) number x (option_to_list c.in-Ok.event)) (sym known.goes) here in
    record {
      limits = told.limits ∙ known.limits;
      fits = told.fits;
      same = told.same;
      goes = led_more k w s i c.loop-made-test.true
          ∙ ap (λ (x : Result World RunError). entered k x number) known.goes
          ∙ subst (λ (l : Limits). entered l (Ok before) number ≡ Ok (world_of c.tell_entry.new.fibers.items c.tell_entry.new.registry.state))
          known.limits told.goes;
      events = subst (λ (es : List Event). AreEvents k w (take (i + 1) s) es) (sym c.in_ok-keep-in-Ok.ensures)
          (events_more k w s i c.loop-made-test.true c.loop-made.events.items (option_to_list c.in-Ok.event) known.events there);
    }

pub returns-in-Err : goal.returns-in-Err
returns-in-Err c =
    let known = c.loop-made.invariant in
    let k = c.args.registry.now.limits in
    let w = world_of c.args.fibers.now.items c.args.registry.now.state in
    let s = c.args.schedule.now in
    let i = c.loop-made.made in
    let number = get_or s i 0 in
    let before = world_of c.loop-made.fibers.items c.loop-made.registry.state in
    let fault : (c.in-Err.fault ≡ run.NoMemory → ⊥) → entered k (Ok before) number ≡ Err c.in-Err.fault = λ other.
    elim c.in-Err.ensures.stops [
      | inl q ↦ absurd (other q)
      | inr q ↦ subst (λ (l : Limits). entered l (Ok before) number ≡ Err c.in-Err.fault) known.limits q
    ] in
    stopped_course k w s i c.loop-made-test.true (record { events = c.loop-made.events; made = i; fault = Some c.in-Err.fault }) c.in-Err.fault before
    (world_of c.tell_entry.new.fibers.items c.tell_entry.new.registry.state) c.stopped.result refl refl known.events known.goes fault
    c.stopped.ensures.course c.stopped.ensures.memory

pub returns : goal.returns
returns c =
    let known = c.loop-made.invariant in
    let k = c.args.registry.now.limits in
    let w = world_of c.args.fibers.now.items c.args.registry.now.state in
    let s = c.args.schedule.now in
    let i = c.loop-made.made in
    let far : length s ≤ i = omega arith in
    let whole : take i s ≡ s = take_all i s far in
    let v = world_of c.loop-made.fibers.items c.loop-made.registry.state in
    let goes : led k w s ≡ Ok v = ap (led k w) (sym whole) ∙ known.goes in
    record {
      events = subst (λ (xs : List ℕ). AreEvents k w xs c.loop-made.events.items) whole known.events;
      made = all v goes;
      end = goes;
    }
