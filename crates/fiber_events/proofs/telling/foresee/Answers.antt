use Rattle.std.proofs.Common.{◌≡◌, ℕ, sym, ap, ◌∙◌, subst}
use Rattle.fiber_frames.specs.Fiber.{ask_of}
use Rattle.cell_registry.specs.Plain.{MayCall}
use Rattle.scheduled_core.{specs.{declared.wish.Wish.TheVariants.Shared, Core.wish_of}, proofs.{AskTells.asking, Moves.may_call}}
use Rattle.fiber_events.proofs.telling.foresee.Goals as goal

pub answer-requires : goal.answer-requires
answer-requires c = λ range.
    let wish : wish_of (ask_of c.args.fiber.now) ≡ Shared c.in-Shared.call =
    ap wish_of (sym c.ask.ensures.ask) ∙ sym c.in-Shared.ensures in
    let asks = asking c.args.fiber.now c.ask.result c.ask.ensures.ask c.ask.ensures.tells c.ask.ensures.leads
    c.ask.ensures.names c.ask.ensures.moves_names c.ask.ensures.child_names in
    subst (λ (n : ℕ). MayCall c.args.beside.now n c.in-Shared.call) (sym c.number-by.ensures)
    (may_call c.args.beside.now c.args.fiber.now.number c.args.fiber.now c.in-Shared.call c.limits.ensures.lawful
    c.requires asks wish range)
