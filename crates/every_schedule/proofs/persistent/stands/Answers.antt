use Rattle.std.proofs.Common.{◌≡◌, ◌&&◌, true, Bool, length, sym, ap, ◌∙◌}
use Rattle.fiber_frames.specs.Fiber.{ask_of}
use Rattle.scheduled_core.specs.Core.{wish_of}
use Rattle.world_search.proofs.Lists.{get_low}
use Rattle.every_schedule.specs.declared.needs.Needs.{Needs}
use Rattle.every_schedule.specs.Persistent.{is_inside, is_sound, needs_at, spared}
use Rattle.every_schedule.specs.Private.Standing.{here}
use Rattle.every_schedule.specs.Private.Persistent.{spared_by}
use Rattle.every_schedule.proofs.Sets.{row_at_many, spared_row, stands_spared}
use Rattle.every_schedule.proofs.persistent.stands.Goals as goal

pub are_spared-requires : goal.are_spared-requires
are_spared-requires c =
    record { many = ap length c.requires.row ∙ row_at_many (here c.args.current.now).world c.args.fiber ∙ sym c.requires.many }

pub returns-then-not-is_inside : goal.returns-then-not-is_inside
returns-then-not-is_inside c =
    let w = (here c.args.current.now).world in
    let f = c.args.fiber in
    let b = get_low w.fibers f c.requires.born in
    let sound : is_sound w f (wish_of (ask_of b.0)) ≡ true = sym (c.is_sound.ensures b.0 b.1) ∙ c.if-not-is_sound.false in
    sym (stands_spared w c.requires.fits c.args.set.now f b.0 b.1 sound
    ∙ ap (λ (t : Bool). t && spared (needs_at w f) c.args.set.now 0 w.fibers)
    (ap (λ (d : Needs). is_inside c.args.set.now d.fiber) (sym c.needs_of-needs.ensures) ∙ sym c.is_inside.ensures ∙ c.if-not-is_inside.true))

pub returns : goal.returns
returns c =
    let w = (here c.args.current.now).world in
    let f = c.args.fiber in
    let b = get_low w.fibers f c.requires.born in
    let sound : is_sound w f (wish_of (ask_of b.0)) ≡ true = sym (c.is_sound.ensures b.0 b.1) ∙ c.if-not-is_sound.false in
    let inside : is_inside c.args.set.now (needs_at w f).fiber ≡ true =
    ap (λ (d : Needs). is_inside c.args.set.now d.fiber) (sym c.needs_of-needs.ensures) ∙ sym c.is_inside.ensures ∙ c.if-not-is_inside.false in
    c.are_spared.ensures ∙ ap (spared_by c.args.set.now 0) c.requires.row ∙ spared_row (needs_at w f) c.args.set.now 0 w.fibers
    ∙ sym (stands_spared w c.requires.fits c.args.set.now f b.0 b.1 sound ∙ ap (λ (t : Bool). t && spared (needs_at w f) c.args.set.now 0 w.fibers) inside)
