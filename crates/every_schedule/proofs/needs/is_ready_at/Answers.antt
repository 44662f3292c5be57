use Rattle.std.proofs.Common.{◌≡◌, not, sym, ap, ◌∙◌}
use Rattle.fiber_frames.specs.Fiber.{ask_of}
use Rattle.fiber_frames.proofs.NamedMoves.{ask_named}
use Rattle.scheduled_core.specs.declared.wish.Wish.TheVariants.{Shared, Alone, Nothing}
use Rattle.scheduled_core.specs.Core.{wish_of}
use Rattle.scheduled_core.specs.Fitting.{given_by}
use Rattle.world_search.proofs.Lists.{get_low}
use Rattle.every_schedule.specs.Persistent.{is_ready, is_ready_in}
use Rattle.every_schedule.specs.Private.Standing.{here}
use Rattle.every_schedule.proofs.Alone.{wanted_named}
use Rattle.every_schedule.proofs.needs.is_ready_at.Goals as goal

pub is_served-requires-clause-named : goal.is_served-requires-clause-named
is_served-requires-clause-named c =
    let w = (here c.args.current.now).world in
    let b = get_low w.fibers c.args.place c.requires.place in
    wanted_named w.cells b.0.number (ask_of b.0) c.in-Shared.call
    (ask_named (given_by w.cells) b.0 (c.requires.fits.each c.args.place b.0 b.1).names)
    (sym (c.wish.ensures b.0 b.1) ∙ c.in-Shared.is)

pub returns-in-Alone : goal.returns-in-Alone
returns-in-Alone c =
    let w = (here c.args.current.now).world in
    let b = get_low w.fibers c.args.place c.requires.place in
    let wish : wish_of (ask_of b.0) ≡ Alone = sym (c.wish.ensures b.0 b.1) ∙ c.in-Alone.is in
    ap not (c.waits_alone.ensures b.0 b.1) ∙ sym (ap (is_ready_in w) b.1 ∙ ap (is_ready w b.0) wish)

pub returns-in-Nothing : goal.returns-in-Nothing
returns-in-Nothing c =
    let w = (here c.args.current.now).world in
    let b = get_low w.fibers c.args.place c.requires.place in
    let wish : wish_of (ask_of b.0) ≡ Nothing = sym (c.wish.ensures b.0 b.1) ∙ c.in-Nothing.is in
    sym (ap (is_ready_in w) b.1 ∙ ap (is_ready w b.0) wish)

pub returns-in-Shared : goal.returns-in-Shared
returns-in-Shared c =
    let w = (here c.args.current.now).world in
    let b = get_low w.fibers c.args.place c.requires.place in
    let wish : wish_of (ask_of b.0) ≡ Shared c.in-Shared.call = sym (c.wish.ensures b.0 b.1) ∙ c.in-Shared.is in
    c.is_served.ensures b.0 ∙ sym (ap (is_ready_in w) b.1 ∙ ap (is_ready w b.0) wish)
