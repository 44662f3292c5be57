use Rattle.std.{proofs.Common.{ap, ◌∙◌, subst}, specs.Prelude.Bool}
use Rattle.fiber_frames.specs.Fiber.{waits_alone}
use Rattle.scheduled_core.specs.{declared.wish.Wish.Wish, Core.wish_of}
use Rattle.every_schedule.specs.Private.Knowing.{IsOwned}
use Rattle.every_schedule.proofs.known.owned_of.Goals as goal

pub returns : goal.returns
returns c =
    subst (λ (d : Wish). IsOwned d (waits_alone c.args.fiber.now) c.owned_by.result) (c.of.ensures ∙ ap wish_of c.ask.ensures.ask)
    (subst (λ (b : Bool). IsOwned c.of.result b c.owned_by.result) c.waits_alone.ensures c.owned_by.ensures)
