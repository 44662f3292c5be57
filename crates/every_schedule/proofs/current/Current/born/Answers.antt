use Rattle.std.proofs.Common.{◌≡◌, length, sym, subst, arith}
use Rattle.every_schedule.specs.Private.Numbered.{picked}
use Rattle.every_schedule.specs.Private.Standing.{Stand}
use Rattle.every_schedule.proofs.Standing.{picked_long}
use Rattle.every_schedule.proofs.current.Current.born.Goals as goal

pub returns : goal.returns
returns c =
    let s = c.self.inside in
    let fs = s.states.fibers.items.items in
    let long : length s.numbers.items ≡ length (picked fs s.numbers.items) = sym (picked_long fs s.numbers.items c.self.invariant.0) in
    let there = subst (λ (x : Stand). length s.numbers.items ≡ length (picked x.fibers x.numbers)) c.self.view_is long in
    let len = c.len.ensures in
    omega arith
