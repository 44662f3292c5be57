use Rattle.std.proofs.Common.{◌≡◌, inl, inr, sym, ap, ◌∙◌, subst}
use Rattle.std.specs.Prelude.{Some}
use Rattle.std.specs.List.{slice_get}
use Rattle.fiber_frames.specs.Fiber.{ask_of}
use Rattle.scheduled_core.specs.declared.wish.Wish.TheVariants.{Shared, Alone, Nothing}
use Rattle.scheduled_core.specs.Core.{wish_of}
use Rattle.world_search.proofs.Lists.{get_low}
use Rattle.every_schedule.specs.Reduced.{has_birth, is_birth}
use Rattle.every_schedule.specs.Private.Standing.{here}
use Rattle.every_schedule.proofs.Standing.{same_none}
use Rattle.every_schedule.proofs.births.is_birth.Goals as goal

pub returns-in-Shared-clause-birth : goal.returns-in-Shared-clause-birth
returns-in-Shared-clause-birth c =
    let w = (here c.args.current.now).world in
    let b = get_low w.fibers c.args.by c.requires.born in
    let at = subst (λ i. slice_get w.fibers i ≡ Some b.0) (sym c.from.ensures) b.1 in
    let wish : wish_of (ask_of b.0) ≡ Shared c.in-Shared.call = sym (c.wish.ensures b.0 at) ∙ c.in-Shared.is in
    c.is_birth_call.ensures.birth ∙ sym (ap (has_birth w c.args.by) b.1 ∙ ap (is_birth w c.args.by) wish)

pub returns-in-Alone-clause-same : goal.returns-in-Alone-clause-same
returns-in-Alone-clause-same c = same_none c.args.current.now

pub returns-in-Alone-clause-birth : goal.returns-in-Alone-clause-birth
returns-in-Alone-clause-birth c =
    let w = (here c.args.current.now).world in
    let b = get_low w.fibers c.args.by c.requires.born in
    let at = subst (λ i. slice_get w.fibers i ≡ Some b.0) (sym c.from.ensures) b.1 in
    elim c.in-Alone.is [
      | inl is ↦
          let wish : wish_of (ask_of b.0) ≡ Alone = sym (c.wish.ensures b.0 at) ∙ is in
          sym (ap (has_birth w c.args.by) b.1 ∙ ap (is_birth w c.args.by) wish)
      | inr is ↦
          let wish : wish_of (ask_of b.0) ≡ Nothing = sym (c.wish.ensures b.0 at) ∙ is in
          sym (ap (has_birth w c.args.by) b.1 ∙ ap (is_birth w c.args.by) wish)
    ]
