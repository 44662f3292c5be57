-- The way of a schedule, entry by entry.
use Rattle.std.proofs.Common.{append-nil, ◌≡◌, ◌≢◌, ℕ, ◌+◌, ◌<◌, List, [], ◌++◌, length, get_or, take, Ok, Err, refl, sym, ap, ◌∙◌, subst, arith}
use Rattle.std.{proofs.lemmas.List.{length-take-le, take-append-drop, take_more, Folds.fold_stuck, Sums.fold_more}, specs.Prelude.{Option, Some, None, Result}}
use Rattle.std.specs.Prelude.{IfOk, OnOk, drop}
use Rattle.derived_ops.specs.Tree.{Tree}
use Rattle.fiber_frames.specs.Fiber.{Fiber}
use Rattle.cell_registry.specs.{declared.limits.{Limits.Limits, RunError.RunError}, Cells.Cells}
use Rattle.scheduled_core.specs.{Core.{World, core, entered, first_world, reported}, Fitting.world_of}
use Rattle.fiber_events.specs.{declared.{event.Event.Event, telling.Course.Course}, Events.{IsEntry, refused, AreEvents, one_more, AreMade, some, led}}
use Rattle.fiber_events.{specs.Private.Telling.{IsCourse, end_of, ended}, proofs.Foreseen.stuck}
use Rattle.cell_registry.specs.declared.limits.RunError.TheVariants as run

module _ (k : Limits) (w : World) (s : List ℕ) (i : ℕ) (within : i < length s) where
  pub led_more : led k w (take (i + 1) s) ≡ entered k (led k w (take i s)) (get_or s i 0)
  led_more = fold_more (entered k) (Ok w) s i 0 within

  pub events_more : (events here : List Event) → AreEvents k w (take i s) events → IsEntry k (i + 1) (get_or s i 0) (led k w (take i s)) here →
      AreEvents k w (take (i + 1) s) (events ++ here)
  events_more events here h e =
      let long : length (take i s) ≡ i = length-take-le i s (omega arith) in
      subst (λ (xs : List ℕ). AreEvents k w xs (events ++ here)) (sym (take_more s i 0 within))
      (one_more (take i s) (get_or s i 0) events here h (subst (λ (n : ℕ). IsEntry k (n + 1) (get_or s i 0) (led k w (take i s)) here) (sym long) e))

  pub led_fault : (u : World) (e : RunError) → led k w (take i s) ≡ Ok u → entered k (Ok u) (get_or s i 0) ≡ Err e → led k w s ≡ Err e
  led_fault u e goes fault =
      sym (fold_stuck (entered k) (Err e) (λ f. refl) (Ok w) s i 0 within (ap (λ (x : Result World RunError). entered k x (get_or s i 0)) goes ∙ fault))

  pub events_fault : (events : List Event) (u : World) (e : RunError) → AreEvents k w (take i s) events → led k w (take i s) ≡ Ok u →
      entered k (Ok u) (get_or s i 0) ≡ Err e → AreEvents k w s events
  events_fault events u e h goes fault =
      let here = events_more events [] h (subst (λ (x : Result World RunError). IsEntry k (i + 1) (get_or s i 0) x []) (sym goes) (refused u e fault)) in
      let there : led k w (take (i + 1) s) ≡ Err e = led_more ∙ ap (λ (x : Result World RunError). entered k x (get_or s i 0)) goes ∙ fault in
      let same : take (i + 1) s ++ drop (i + 1) s ≡ s = take-append-drop (i + 1) s in
      let plain : events ++ [] ≡ events = append-nil events in
      subst (λ (xs : List ℕ). AreEvents k w xs events) same
      (stuck k w e (drop (i + 1) s) (take (i + 1) s) events (subst (λ (es : List Event). AreEvents k w (take (i + 1) s) es) plain here) there)

  pub made_fault : (u : World) (e : RunError) → led k w (take i s) ≡ Ok u → entered k (Ok u) (get_or s i 0) ≡ Err e → AreMade k w s i
  made_fault u e goes fault =
      some i u e within goes (led_more ∙ ap (λ (x : Result World RunError). entered k x (get_or s i 0)) goes ∙ fault)

  -- a way that is stopped by the fault of its next entry
  pub stopped_course : {E : Type 0} (it : Course) (e : RunError) (u v : World) (r : Result Course E) → it.made ≡ i → it.fault ≡ Some e →
      AreEvents k w (take i s) it.events.items → led k w (take i s) ≡ Ok u → (e ≢ run.NoMemory → entered k (Ok u) (get_or s i 0) ≡ Err e) →
      IfOk r (λ x. x ≡ it) → OnOk r (e ≢ run.NoMemory) → IfOk r (λ x. IsCourse k w s x v)
  stopped_course it e u v (Ok x) made stop events goes fault is other =
      let here = fault other in
      subst (λ (y : Course). IsCourse k w s y v) (sym is) record {
        events = events_fault it.events.items u e events goes here;
        made = subst (AreMade k w s) (sym made) (made_fault u e goes here);
        end = led_fault u e goes here ∙ ap (λ (o : Option RunError). ended o v) (sym stop);
      }
  stopped_course it e u v (Err x) made stop events goes fault is other = tt

-- what a whole schedule came to
pub end_told : (code : Tree) (k : Limits) (s : List ℕ) (fibers : List Fiber) (cells : Cells) (fault : Option RunError) →
    led k (first_world code k) s ≡ ended fault (world_of fibers cells) → end_of fibers fault ≡ reported (core code k s)
unfolding core
end_told code k s fibers cells None e = sym (ap reported e)
end_told code k s fibers cells (Some x) e = sym (ap reported e)
