use Rattle.std.proofs.Common.{◌≡◌, sym, ap, ◌∙◌, subst, arith}
use Rattle.std.specs.Prelude.{Some, None}
use Rattle.std.specs.List.{slice_get}
use Rattle.std.proofs.lemmas.Grind.{common_steps}
use Rattle.std.proofs.lemmas.Option.{gets, same_Some}
use Rattle.fiber_frames.specs.Reached.{Reached}
use Rattle.scheduled_core.specs.Core.{wish_of}
use Rattle.every_schedule.specs.Claims.{stored_by, stored_in}
use Rattle.every_outcome.proofs.Moments.{stored_none, stored_same}
use Rattle.every_outcome.proofs.own_moves.stored_by.Goals as goal

pub returns-in-None : goal.returns-in-None
returns-in-None c = λ says.
    let w = c.args.world.now.world in
    let none : slice_get w.fibers c.args.by ≡ None = grind (arith, common_steps, gets) in
    sym (stored_none says w c.args.by none)

pub returns-in-Some : goal.returns-in-Some
returns-in-Some c = λ says.
    let w = c.args.world.now.world in
    let it = c.in-Some.it.now in
    let at : slice_get w.fibers c.args.by ≡ Some it = grind (arith, common_steps, gets) in
    c.stored_in.ensures ∙ ap stored_in (c.of.ensures ∙ ap wish_of c.ask.ensures.ask) ∙ sym (ap stored_by at) ∙
    sym (stored_same says w c.args.by (λ g e. subst Reached (same_Some it g (sym at ∙ e)) c.ask.ensures.reached))
