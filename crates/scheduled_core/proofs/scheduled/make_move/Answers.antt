use Rattle.std.{proofs.Common.{◌≡◌, ℕ, inr, refl, sym, ap, subst, ◌∙◌}, specs.Prelude.Some}
use Rattle.effect_term.specs.declared.reply.Reply.TheVariants.{Done}
use Rattle.fiber_frames.specs.Fiber.{ask_of}
use Rattle.scheduled_core.specs.{declared.wish.Wish.TheVariants.{Shared, Alone, Nothing}, Core.{fault_of, wish_of}, Private.Moving.{Made, Refuses, Rests}}
use Rattle.scheduled_core.{specs.Private.Moving.Unshared, proofs.{AskTells.asking, Moves.{few_masks, goes_on, lacks_memory, may_call, replied_answers}}}
use Rattle.cell_registry.specs.{Cells.refusal, Plain.{IsMade, MayCall}}
use Rattle.scheduled_core.proofs.scheduled.make_move.Goals as goal

pub returns-in-Nothing-clause-moves : goal.returns-in-Nothing-clause-moves
returns-in-Nothing-clause-moves c =
    let wish : wish_of (ask_of c.args.config.now) ≡ Nothing =
    ap wish_of (sym c.ask.ensures.ask) ∙ sym c.in-Nothing.ensures in
    Rests wish refl refl refl

pub resumed-requires-clause-fits : goal.resumed-requires-clause-fits
resumed-requires-clause-fits c =
    let wish : wish_of (ask_of c.args.config.now) ≡ Alone =
    ap wish_of (sym c.ask.ensures.ask) ∙ sym c.in-Alone.ensures in
    replied_answers c.args.registry.now c.args.registry.now c.args.config.now.number c.args.config.now Done c.requires
    (Unshared wish refl refl)

pub resumed-requires-clause-in_range : goal.resumed-requires-clause-in_range
resumed-requires-clause-in_range c =
    few_masks c.args.registry.now c.args.config.now.number c.args.config.now c.limits.ensures.lawful c.requires

pub returns-in-Alone-clause-moves : goal.returns-in-Alone-clause-moves
returns-in-Alone-clause-moves c =
    let wish : wish_of (ask_of c.args.config.now) ≡ Alone =
    ap wish_of (sym c.ask.ensures.ask) ∙ sym c.in-Alone.ensures in
    let asks = asking c.args.config.now c.ask.result c.ask.ensures.ask c.ask.ensures.tells c.ask.ensures.leads
    c.ask.ensures.names c.ask.ensures.moves_names c.ask.ensures.child_names in
    goes_on c.args.registry.now c.args.config.now.number c.args.config.now c.args.registry.now c.resumed.new.config Done
    c.resumed.result asks (Unshared wish refl refl) c.resumed.ensures.state c.resumed.ensures.child

pub returns-in-Alone-clause-stops : goal.returns-in-Alone-clause-stops
returns-in-Alone-clause-stops c =
    lacks_memory c.args.registry.now c.args.config.now.number c.args.config.now c.resumed.result c.resumed.ensures.memory

pub answer-requires : goal.answer-requires
answer-requires c = λ range.
    let wish : wish_of (ask_of c.args.config.now) ≡ Shared c.in-Shared.call =
    ap wish_of (sym c.ask.ensures.ask) ∙ sym c.in-Shared.ensures in
    let asks = asking c.args.config.now c.ask.result c.ask.ensures.ask c.ask.ensures.tells c.ask.ensures.leads
    c.ask.ensures.names c.ask.ensures.moves_names c.ask.ensures.child_names in
    subst (λ (n : ℕ). MayCall c.args.registry.now n c.in-Shared.call) (sym c.number-by.ensures)
    (may_call c.args.registry.now c.args.config.now.number c.args.config.now c.in-Shared.call c.limits.ensures.lawful
    c.requires asks wish range)

pub resumed-requires-in-Ok-clause-fits : goal.resumed-requires-in-Ok-clause-fits
resumed-requires-in-Ok-clause-fits c =
    let wish : wish_of (ask_of c.args.config.now) ≡ Shared c.in-Shared.call =
    ap wish_of (sym c.ask.ensures.ask) ∙ sym c.in-Shared.ensures in
    let made : IsMade c.args.registry.now c.answer.new.registry c.args.config.now.number c.in-Shared.call c.in-Ok.reply =
    subst (λ (n : ℕ). IsMade c.args.registry.now c.answer.new.registry n c.in-Shared.call c.in-Ok.reply)
    c.number-by.ensures c.in-Ok.ensures in
    replied_answers c.args.registry.now c.answer.new.registry c.args.config.now.number c.args.config.now c.in-Ok.reply c.requires
    (Made c.in-Shared.call wish made)

pub resumed-requires-in-Ok-clause-in_range : goal.resumed-requires-in-Ok-clause-in_range
resumed-requires-in-Ok-clause-in_range c =
    few_masks c.args.registry.now c.args.config.now.number c.args.config.now c.limits.ensures.lawful c.requires

pub returns-in-Ok-clause-moves : goal.returns-in-Ok-clause-moves
returns-in-Ok-clause-moves c =
    let wish : wish_of (ask_of c.args.config.now) ≡ Shared c.in-Shared.call =
    ap wish_of (sym c.ask.ensures.ask) ∙ sym c.in-Shared.ensures in
    let asks = asking c.args.config.now c.ask.result c.ask.ensures.ask c.ask.ensures.tells c.ask.ensures.leads
    c.ask.ensures.names c.ask.ensures.moves_names c.ask.ensures.child_names in
    let made : IsMade c.args.registry.now c.answer.new.registry c.args.config.now.number c.in-Shared.call c.in-Ok.reply =
    subst (λ (n : ℕ). IsMade c.args.registry.now c.answer.new.registry n c.in-Shared.call c.in-Ok.reply)
    c.number-by.ensures c.in-Ok.ensures in
    goes_on c.args.registry.now c.args.config.now.number c.args.config.now c.answer.new.registry c.resumed-in-Ok.new.config
    c.in-Ok.reply c.resumed-in-Ok.result asks (Made c.in-Shared.call wish made)
    c.resumed-in-Ok.ensures.state c.resumed-in-Ok.ensures.child

pub returns-in-Ok-clause-stops : goal.returns-in-Ok-clause-stops
returns-in-Ok-clause-stops c =
    lacks_memory c.args.registry.now c.args.config.now.number c.args.config.now c.resumed-in-Ok.result
    c.resumed-in-Ok.ensures.memory

pub returns-in-Err-clause-stops : goal.returns-in-Err-clause-stops
returns-in-Err-clause-stops c =
    let wish : wish_of (ask_of c.args.config.now) ≡ Shared c.in-Shared.call =
    ap wish_of (sym c.ask.ensures.ask) ∙ sym c.in-Shared.ensures in
    let refused : Refuses c.args.registry.now c.args.config.now.number c.args.config.now c.fault.result = record {
      call = c.in-Shared.call;
      wish = wish;
      why = c.in-Err.error;
      refused = subst (λ (n : ℕ). refusal c.args.registry.now.limits c.args.registry.now.state n c.in-Shared.call
          ≡ Some c.in-Err.error) c.number-by.ensures c.in-Err.ensures.why;
      fault = c.fault.ensures ∙ ap (λ n. fault_of n c.in-Err.error) c.number-by.ensures;
    } in
    inr refused
