use Rattle.std.{proofs.Common.{◌≡◌, List, Ok, Err, inl, inr, sym, ap, ◌∙◌, subst}, specs.{Prelude.Some, List.slice_get}}
use Rattle.fiber_frames.specs.{Fiber.Fiber, Reached.Reached}
use Rattle.cell_registry.specs.declared.limits.Limits.{Limits}
use Rattle.scheduled_core.specs.{Core.World, Fitting.world_of}
use Rattle.every_outcome.{specs.{Places.{Place, stepped, unmarked_place, unmarked_world}, Private.Keeping.IsFull}, proofs.Stepping.{step_full, step_goes}}
use Rattle.every_outcome.proofs.core_world.CoreWorld.enter.Goals as goal

pub returns-clause-goes : goal.returns-clause-goes
returns-clause-goes c = λ says.
    let s = c.self.inside in
    let k : Limits = s.registry.limits in
    let w : World = world_of s.fibers.items s.registry.state in
    let v : World = world_of c.enter.new.fibers.items c.enter.new.registry.state in
    let reach : (g : Fiber) → slice_get w.fibers c.args.fiber ≡ Some g → Reached g =
    λ g e. c.reaches.ensures g (ap (λ (l : List Fiber). slice_get l c.args.fiber) c.as_slice.ensures.value ∙ e) in
    ap (λ (p : Place). stepped says (unmarked_place says p) c.args.fiber) (sym c.self.view_is)
    ∙ step_goes says k c.limits.ensures.lawful.limits.some_count w c.args.fiber reach v c.in-Ok.ensures.goes
    ∙ ap (λ (l : Limits). Ok (let p : Place = record { limits = l; world = unmarked_world says v } in p)) (sym c.in-Ok.ensures.limits)

pub returns-in-Err-clause-stops : goal.returns-in-Err-clause-stops
returns-in-Err-clause-stops c =
    let s = c.self.inside in
    let k : Limits = s.registry.limits in
    let w : World = world_of s.fibers.items s.registry.state in
    let fault = c.in-Err.fault in
    let reach : (g : Fiber) → slice_get w.fibers c.args.fiber ≡ Some g → Reached g =
    λ g e. c.reaches.ensures g (ap (λ (l : List Fiber). slice_get l c.args.fiber) c.as_slice.ensures.value ∙ e) in
    elim c.full_or_memory.ensures [
      | inl e ↦ inl e
      | inr h ↦ elim c.in-Err.ensures.stops [
        | inl m ↦ absurd (subst IsFull m h.1)
        | inr e ↦ inr (λ says. ap (λ (p : Place). stepped says (unmarked_place says p) c.args.fiber) (sym c.self.view_is)
            ∙ step_full says k c.limits.ensures.lawful.limits.some_count w c.args.fiber reach fault h.1 e ∙ ap Err (sym h.0))
      ]
    ]
