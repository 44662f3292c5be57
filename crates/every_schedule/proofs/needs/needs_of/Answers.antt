use Rattle.std.proofs.Common.{◌≡◌, sym, ap, ◌∙◌, subst}
use Rattle.std.specs.Prelude.{Some}
use Rattle.std.specs.List.{slice_get}
use Rattle.fiber_frames.specs.Fiber.{ask_of}
use Rattle.fiber_frames.proofs.NamedMoves.{ask_named}
use Rattle.scheduled_core.specs.declared.wish.Wish.TheVariants.{Shared}
use Rattle.scheduled_core.specs.Core.{wish_of}
use Rattle.scheduled_core.specs.Fitting.{given_by}
use Rattle.world_search.proofs.Lists.{get_low}
use Rattle.every_schedule.specs.Persistent.{needs_in, needs_of}
use Rattle.every_schedule.specs.Private.Standing.{here}
use Rattle.every_schedule.proofs.Alone.{wanted_named}
use Rattle.every_schedule.proofs.needs.needs_of.Goals as goal

pub call_needs-requires-clause-named : goal.call_needs-requires-clause-named
call_needs-requires-clause-named c =
    let w = (here c.args.current.now).world in
    let b = get_low w.fibers c.args.by c.requires.born in
    let at = subst (λ i. slice_get w.fibers i ≡ Some b.0) (sym c.from.ensures) b.1 in
    wanted_named w.cells b.0.number (ask_of b.0) c.in-Shared.call
    (ask_named (given_by w.cells) b.0 (c.requires.fits.each c.args.by b.0 b.1).names)
    (sym (c.wish.ensures b.0 at) ∙ c.in-Shared.is)

pub returns-in-Shared : goal.returns-in-Shared
returns-in-Shared c =
    let w = (here c.args.current.now).world in
    let b = get_low w.fibers c.args.by c.requires.born in
    let at = subst (λ i. slice_get w.fibers i ≡ Some b.0) (sym c.from.ensures) b.1 in
    let wish : wish_of (ask_of b.0) ≡ Shared c.in-Shared.call = sym (c.wish.ensures b.0 at) ∙ c.in-Shared.is in
    c.call_needs.ensures ∙ sym (ap (needs_in w c.args.by) b.1 ∙ ap (needs_of w c.args.by) wish)
