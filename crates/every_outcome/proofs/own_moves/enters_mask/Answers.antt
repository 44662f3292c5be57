use Rattle.std.proofs.Common.{◌≡◌, sym, ap, ◌∙◌, subst, arith}
use Rattle.std.specs.Prelude.{Some, None}
use Rattle.std.specs.List.{slice_get}
use Rattle.std.proofs.lemmas.Grind.{common_steps}
use Rattle.std.proofs.lemmas.Option.{gets, same_Some}
use Rattle.fiber_frames.specs.Reached.{Reached}
use Rattle.scheduled_core.specs.Core.{wish_of}
use Rattle.every_outcome.specs.Private.Reduced.{masks_next, wants_mask}
use Rattle.every_outcome.proofs.Moments.{masks_none, masks_same}
use Rattle.every_outcome.proofs.own_moves.enters_mask.Goals as goal

pub returns-in-None : goal.returns-in-None
returns-in-None c = λ says.
    let w = c.args.world.now.world in
    let none : slice_get w.fibers c.args.by ≡ None = grind (arith, common_steps, gets) in
    sym (masks_none says w c.args.by none)

pub returns-in-Some : goal.returns-in-Some
returns-in-Some c = λ says.
    let w = c.args.world.now.world in
    let it = c.in-Some.it.now in
    let at : slice_get w.fibers c.args.by ≡ Some it = grind (arith, common_steps, gets) in
    c.wants_mask.ensures ∙ ap wants_mask (c.of.ensures ∙ ap wish_of c.ask.ensures.ask) ∙ sym (ap masks_next at) ∙
    sym (masks_same says w c.args.by (λ g e. subst Reached (same_Some it g (sym at ∙ e)) c.ask.ensures.reached))
