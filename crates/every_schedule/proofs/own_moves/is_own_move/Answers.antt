use Rattle.std.proofs.Common.{◌≡◌, refl, sym, ap, ◌∙◌, subst}
use Rattle.std.specs.Prelude.{Some}
use Rattle.std.specs.List.{slice_get}
use Rattle.fiber_frames.specs.Fiber.{ask_of, waits_alone}
use Rattle.scheduled_core.specs.Core.{wish_of}
use Rattle.world_search.proofs.Lists.{get_low}
use Rattle.every_schedule.specs.declared.known.Owned.{Owned}
use Rattle.every_schedule.specs.declared.known.Owned.TheVariants.{Never, Always}
use Rattle.every_schedule.specs.Private.Knowing.{IsOwned}
use Rattle.every_schedule.specs.Reduced.{has_own}
use Rattle.every_schedule.specs.Private.Standing.{here}
use Rattle.every_schedule.proofs.Standing.{same_none}
use Rattle.every_schedule.proofs.own_moves.is_own_move.Goals as goal

pub returns-in-Never-clause-same : goal.returns-in-Never-clause-same
returns-in-Never-clause-same c = same_none c.args.current.now

pub returns-in-Never-clause-own : goal.returns-in-Never-clause-own
returns-in-Never-clause-own c =
    let w = (here c.args.current.now).world in
    let b = get_low w.fibers c.args.by c.requires.born in
    let at = subst (λ i. slice_get w.fibers i ≡ Some b.0) (sym c.from.ensures) b.1 in
    let told : IsOwned (wish_of (ask_of b.0)) (waits_alone b.0) Never =
    subst (λ (o : Owned). IsOwned (wish_of (ask_of b.0)) (waits_alone b.0) o) c.in-Never.is (c.owned.ensures b.0 at) in
    sym (ap (has_own w c.args.by) b.1 ∙ told w c.args.by b.0 refl)

pub returns-in-Always-clause-same : goal.returns-in-Always-clause-same
returns-in-Always-clause-same c = same_none c.args.current.now

pub returns-in-Always-clause-own : goal.returns-in-Always-clause-own
returns-in-Always-clause-own c =
    let w = (here c.args.current.now).world in
    let b = get_low w.fibers c.args.by c.requires.born in
    let at = subst (λ i. slice_get w.fibers i ≡ Some b.0) (sym c.from.ensures) b.1 in
    let told : IsOwned (wish_of (ask_of b.0)) (waits_alone b.0) Always =
    subst (λ (o : Owned). IsOwned (wish_of (ask_of b.0)) (waits_alone b.0) o) c.in-Always.is (c.owned.ensures b.0 at) in
    sym (ap (has_own w c.args.by) b.1 ∙ told w c.args.by b.0 refl)
