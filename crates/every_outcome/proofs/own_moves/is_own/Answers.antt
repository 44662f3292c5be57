use Rattle.std.proofs.{Common.{◌≡◌, not, sym, ap, ◌∙◌}, lemmas.Option.slice_get_within}
use Rattle.fiber_frames.{specs.Fiber.ask_of, proofs.NamedMoves.ask_named}
use Rattle.scheduled_core.specs.{declared.wish.Wish.TheVariants.{Shared, Alone, Nothing}, Core.wish_of, Fitting.given_by}
use Rattle.every_schedule.{specs.Reduced.is_own, proofs.Alone.{born_given, wanted_named}}
use Rattle.every_outcome.proofs.own_moves.is_own.Goals as goal

pub is_own_call-requires-clause-born : goal.is_own_call-requires-clause-born
is_own_call-requires-clause-born c =
    let w = c.args.world.now.world in
    born_given w c.requires.fits c.args.by (slice_get_within w.fibers c.args.by c.args.fiber.now c.requires.at)

pub is_own_call-requires-clause-named : goal.is_own_call-requires-clause-named
is_own_call-requires-clause-named c =
    let w = c.args.world.now.world in
    let g = c.args.fiber.now in
    wanted_named w.cells g.number (ask_of g) c.in-Shared.call
    (ask_named (given_by w.cells) g (c.requires.fits.each c.args.by g c.requires.at).names)
    (ap wish_of (sym c.ask.ensures.ask) ∙ sym c.of.ensures ∙ c.in-Shared.is)

pub returns-in-Shared-clause-own : goal.returns-in-Shared-clause-own
returns-in-Shared-clause-own c =
    let w = c.args.world.now.world in
    let g = c.args.fiber.now in
    let wish : wish_of (ask_of g) ≡ Shared c.in-Shared.call = ap wish_of (sym c.ask.ensures.ask) ∙ sym c.of.ensures ∙ c.in-Shared.is in
    c.is_own_call.ensures ∙ sym (ap (is_own w c.args.by g) wish)

pub returns-in-Alone-clause-own : goal.returns-in-Alone-clause-own
returns-in-Alone-clause-own c =
    let w = c.args.world.now.world in
    let g = c.args.fiber.now in
    let wish : wish_of (ask_of g) ≡ Alone = ap wish_of (sym c.ask.ensures.ask) ∙ sym c.of.ensures ∙ c.in-Alone.is in
    ap not c.waits_alone.ensures ∙ sym (ap (is_own w c.args.by g) wish)

pub returns-in-Nothing-clause-own : goal.returns-in-Nothing-clause-own
returns-in-Nothing-clause-own c =
    let w = c.args.world.now.world in
    let g = c.args.fiber.now in
    let wish : wish_of (ask_of g) ≡ Nothing = ap wish_of (sym c.ask.ensures.ask) ∙ sym c.of.ensures ∙ c.in-Nothing.is in
    sym (ap (is_own w c.args.by g) wish)
