use Rattle.std.proofs.Common.{◌≡◌, ◌<◌, ◌≤◌, true, false, ◌||◌, nat_eq, length, refl, sym, ap, ◌∙◌, subst, arith}
use Rattle.std.specs.Prelude.{Some}
use Rattle.std.specs.List.{slice_get}
use Rattle.scheduled_core.specs.Fitting.{AllFit}
use Rattle.world_search.proofs.Lists.{get_low}
use Rattle.every_schedule.specs.Places.{Place}
use Rattle.every_schedule.specs.Reduced.{keeps}
use Rattle.every_schedule.specs.Private.Standing.{here}
use Rattle.every_schedule.proofs.Alone.{none_left, one_passes, one_stops}
use Rattle.every_schedule.proofs.Standing.{same_none, same_on}
use Rattle.every_schedule.proofs.births.is_alone.Goals as goal

pub loop-place-init : goal.loop-place-init
loop-place-init c = record { same = same_none c.args.current.now; spared = refl }

pub spares-spared-requires-clause-place : goal.spares-spared-requires-clause-place
spares-spared-requires-clause-place c =
    let long = c.born-place-end.ensures in
    let same = ap (λ (p : Place). length p.world.fibers) c.loop-place.invariant.same.here in
    omega arith

pub spares-spared-requires-clause-fits : goal.spares-spared-requires-clause-fits
spares-spared-requires-clause-fits c = subst (λ (p : Place). AllFit p.world) (sym c.loop-place.invariant.same.here) c.requires

pub returns-then-not-spared-clause-same : goal.returns-then-not-spared-clause-same
returns-then-not-spared-clause-same c =
    same_on c.args.current.now c.loop-place.current c.spares-spared.new.current c.loop-place.invariant.same c.spares-spared.ensures.same

pub returns-then-not-spared-clause-alone : goal.returns-then-not-spared-clause-alone
returns-then-not-spared-clause-alone c =
    let w = (here c.args.current.now).world in
    let u = c.args.what in
    let f = c.args.by in
    let i = c.loop-place.place in
    let long = c.born-place-end.ensures in
    let low : i < length w.fibers = omega arith in
    let b = get_low w.fibers i low in
    let known = c.loop-place.invariant in
    let at : slice_get (here c.loop-place.current).world.fibers i ≡ Some b.0 =
    subst (λ (p : Place). slice_get p.world.fibers i ≡ Some b.0) (sym known.same.here) b.1 in
    let leaves : nat_eq i f || keeps u 0 b.0 ≡ false = sym (c.spares-spared.ensures.spares b.0 at) ∙ c.if-not-spared.true in
    sym (known.spared ∙ one_stops (keeps u 0) f w.fibers i b.0 b.1 leaves)

pub loop-place-preserved : goal.loop-place-preserved
loop-place-preserved c =
    let w = (here c.args.current.now).world in
    let u = c.args.what in
    let f = c.args.by in
    let i = c.loop-place.place in
    let long = c.born-place-end.ensures in
    let low : i < length w.fibers = omega arith in
    let b = get_low w.fibers i low in
    let known = c.loop-place.invariant in
    let at : slice_get (here c.loop-place.current).world.fibers i ≡ Some b.0 =
    subst (λ (p : Place). slice_get p.world.fibers i ≡ Some b.0) (sym known.same.here) b.1 in
    let passes : nat_eq i f || keeps u 0 b.0 ≡ true = sym (c.spares-spared.ensures.spares b.0 at) ∙ c.if-not-spared.false in
    record {
      same = same_on c.args.current.now c.loop-place.current c.spares-spared.new.current known.same c.spares-spared.ensures.same;
      spared = known.spared ∙ one_passes (keeps u 0) f w.fibers i b.0 b.1 passes;
    }

pub returns-clause-alone : goal.returns-clause-alone
returns-clause-alone c =
    let w = (here c.args.current.now).world in
    let u = c.args.what in
    let f = c.args.by in
    let long = c.born-place-end.ensures in
    let past : length w.fibers ≤ c.loop-place.place = omega arith in
    sym (c.loop-place.invariant.spared ∙ none_left (keeps u 0) f w.fibers c.loop-place.place past)

pub returns-clause-same : goal.returns-clause-same
returns-clause-same c = c.loop-place.invariant.same
