use Rattle.std.proofs.Common.{◌≡◌, ◌<◌, length, sym, subst, arith}
use Rattle.std.specs.Prelude.{Some}
use Rattle.std.specs.List.{slice_get}
use Rattle.std.proofs.lemmas.Grind.{common_steps}
use Rattle.std.proofs.lemmas.Option.{gets}
use Rattle.every_schedule.specs.Private.Numbered.{picked}
use Rattle.every_schedule.specs.Private.Standing.{Stand}
use Rattle.every_schedule.proofs.Standing.{all_low, picked_get, picked_long}
use Rattle.every_schedule.proofs.current.Current.fiber.Goals as goal

pub index-number-requires : goal.index-number-requires
index-number-requires c =
    let s = c.self.inside in
    let long = picked_long s.states.fibers.items.items s.numbers.items c.self.invariant.0 in
    let low = subst (λ (x : Stand). c.args.place < length (picked x.fibers x.numbers)) (sym c.self.view_is) c.requires in
    omega arith

pub index-requires : goal.index-requires
index-requires c =
    let s = c.self.inside in
    let long = picked_long s.states.fibers.items.items s.numbers.items c.self.invariant.0 in
    let within = subst (λ (x : Stand). c.args.place < length (picked x.fibers x.numbers)) (sym c.self.view_is) c.requires in
    let low : c.args.place < length s.numbers.items = omega arith in
    let at : slice_get s.numbers.items c.args.place ≡ Some c.index-number.result.now = grind (arith, common_steps, gets) in
    let there = all_low s.states.fibers.items.items s.numbers.items c.args.place c.index-number.result.now c.self.invariant.0 at in
    omega arith

pub returns : goal.returns
returns c =
    let s = c.self.inside in
    let fs = s.states.fibers.items.items in
    let n = c.index-number.result.now in
    let long = picked_long s.states.fibers.items.items s.numbers.items c.self.invariant.0 in
    let within = subst (λ (x : Stand). c.args.place < length (picked x.fibers x.numbers)) (sym c.self.view_is) c.requires in
    let low : c.args.place < length s.numbers.items = omega arith in
    let at : slice_get s.numbers.items c.args.place ≡ Some n = grind (arith, common_steps, gets) in
    let inside = all_low fs s.numbers.items c.args.place n c.self.invariant.0 at in
    let is : slice_get fs n ≡ Some c.index.result.now = grind (arith, common_steps, gets) in
    subst (λ (x : Stand). slice_get (picked x.fibers x.numbers) c.args.place ≡ Some c.index.result.now) c.self.view_is
    (picked_get fs s.numbers.items c.args.place n c.index.result.now c.self.invariant.0 at is)
