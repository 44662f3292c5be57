use Rattle.std.proofs.Common.{◌≡◌, sym, ap, ◌∙◌, subst, arith}
use Rattle.std.specs.Prelude.{Some}
use Rattle.std.specs.List.{slice_get}
use Rattle.std.proofs.lemmas.Grind.{common_steps}
use Rattle.std.proofs.lemmas.Option.{gets}
use Rattle.fiber_frames.specs.Fiber.{Fiber, move}
use Rattle.fiber_frames.specs.Moves.{moved}
use Rattle.scheduled_core.specs.Private.Moving.{children}
use Rattle.world_search.proofs.Lists.{more_get}
use Rattle.every_schedule.specs.Private.Turning.{IsChild, MayTurn, reply_of}
use Rattle.every_schedule.proofs.current.made.Goals as goal

pub resumed-requires-clause-may : goal.resumed-requires-clause-may
resumed-requires-clause-may c =
    let at : slice_get c.args.pool.now.items.items c.args.state ≡ Some c.index.result.now = grind (arith, common_steps, gets) in
    subst (λ (g : Fiber). MayTurn g (reply_of c.args.said)) (sym c.in_ok-fiber.ensures) (c.requires.may c.index.result.now at)

pub returns-clause-turned : goal.returns-clause-turned
returns-clause-turned c =
    let at : slice_get c.args.pool.now.items.items c.args.state ≡ Some c.index.result.now = grind (arith, common_steps, gets) in
    let fs = c.args.pool.now.items.items in
    let gs = c.number.new.self.items.items in
    let hs = c.child_of.new.pool.items.items in
    let one = c.in_ok-next.ensures.more in
    let two = c.in_ok-child-2.ensures.more in
    let same = c.in_ok-fiber.ensures in
    let went = c.in_ok-child.ensures.state ∙ ap (λ (g : Fiber). move g (reply_of c.args.said)) same in
    record {
      fiber = c.index.result.now;
      at = more_get gs hs c.args.state _ two (more_get fs gs c.args.state _ one at);
      to = more_get gs hs c.in_ok-next.next _ two (c.in_ok-next.ensures.number ∙ ap Some went);
      child = subst (IsChild hs c.in_ok-child-2.child)
          (c.in_ok-child.ensures.child ∙ ap (λ (g : Fiber). children (moved g (reply_of c.args.said))) same) c.in_ok-child-2.ensures.child;
    }
