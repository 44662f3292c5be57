use Rattle.std.proofs.Common.{◌≡◌, sym, ap, ◌∙◌, subst}
use Rattle.effect_term.specs.declared.reply.Reply.{Reply}
use Rattle.fiber_frames.specs.Fiber.{ask_of}
use Rattle.scheduled_core.specs.declared.wish.Wish.TheVariants.{Shared}
use Rattle.scheduled_core.specs.Core.{wish_of}
use Rattle.scheduled_core.specs.Private.Moving.{Made, Refuses, Replied}
use Rattle.scheduled_core.proofs.AskTells.{asking}
use Rattle.scheduled_core.proofs.Moves.{may_call}
use Rattle.every_schedule.proofs.current.replied.Goals as goal

pub answer-requires : goal.answer-requires
answer-requires c = λ range.
    let wish : wish_of (ask_of c.args.config.now) ≡ Shared c.in-Shared.call = ap wish_of (sym c.ask.ensures.ask) ∙ sym c.of.ensures ∙ c.in-Shared.is in
    let asks = asking c.args.config.now c.ask.result c.ask.ensures.ask c.ask.ensures.tells c.ask.ensures.leads
    c.ask.ensures.names c.ask.ensures.moves_names c.ask.ensures.child_names in
    may_call c.args.registry.now c.args.fiber c.args.config.now c.in-Shared.call c.limits.ensures.lawful c.requires.fits asks wish range

pub returns-in-Ok-clause-made : goal.returns-in-Ok-clause-made
returns-in-Ok-clause-made c =
    let wish : wish_of (ask_of c.args.config.now) ≡ Shared c.in-Shared.call = ap wish_of (sym c.ask.ensures.ask) ∙ sym c.of.ensures ∙ c.in-Shared.is in
    subst (λ (r : Reply). Replied c.args.registry.now c.args.fiber c.args.config.now r c.answer.new.registry) (sym c.told.ensures.reply)
    (Made c.in-Shared.call wish c.in-Ok.ensures)

pub returns-in-Err-clause-refused : goal.returns-in-Err-clause-refused
returns-in-Err-clause-refused c =
    let wish : wish_of (ask_of c.args.config.now) ≡ Shared c.in-Shared.call = ap wish_of (sym c.ask.ensures.ask) ∙ sym c.of.ensures ∙ c.in-Shared.is in
    let refused : Refuses c.args.registry.now c.args.fiber c.args.config.now c.fault.result = record {
      call = c.in-Shared.call;
      wish = wish;
      why = c.in-Err.error;
      refused = c.in-Err.ensures.why;
      fault = c.fault.ensures;
    } in
    (c.in-Err.ensures.same, refused)

pub returns-in-Ok-clause-asks : goal.returns-in-Ok-clause-asks
returns-in-Ok-clause-asks c =
    asking c.args.config.now c.ask.result c.ask.ensures.ask c.ask.ensures.tells c.ask.ensures.leads
    c.ask.ensures.names c.ask.ensures.moves_names c.ask.ensures.child_names

pub returns-in-Err-clause-asks : goal.returns-in-Err-clause-asks
returns-in-Err-clause-asks c =
    asking c.args.config.now c.ask.result c.ask.ensures.ask c.ask.ensures.tells c.ask.ensures.leads
    c.ask.ensures.names c.ask.ensures.moves_names c.ask.ensures.child_names
