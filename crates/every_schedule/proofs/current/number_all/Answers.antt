use Rattle.std.proofs.Common.{◌≡◌, ◌≤◌, ◌+◌, ℕ, List, length, take, sym, subst, arith}
use Rattle.std.specs.Prelude.{Some}
use Rattle.std.specs.List.{slice_get}
use Rattle.std.proofs.lemmas.Grind.{common_steps}
use Rattle.std.proofs.lemmas.Option.{gets}
use Rattle.std.proofs.lemmas.List.{take_all}
use Rattle.fiber_frames.specs.Fiber.{Fiber}
use Rattle.world_search.proofs.Lists.{more_more, more_same}
use Rattle.every_schedule.specs.Private.Numbered.{AreAt}
use Rattle.every_schedule.proofs.Numbered.{at_more}
use Rattle.every_schedule.proofs.Standing.{none_numbered, numbered_at}
use Rattle.every_schedule.proofs.current.number_all.Goals as goal

pub loop-i-init : goal.loop-i-init
loop-i-init c =
    let fs = c.args.pool.now.items.items in
    record {
      more = more_same fs;
      numbers = subst (λ (l : List ℕ). AreAt fs l (take 0 c.args.fibers.now)) (sym c.new-numbers.ensures.items) (none_numbered fs c.args.fibers.now);
    }

pub loop-i-preserved : goal.loop-i-preserved
loop-i-preserved c =
    let known = c.loop-i.invariant in
    let told = c.in_ok-number.ensures in
    let fs = c.loop-i.pool.items.items in
    let gs = c.number_of.new.self.items.items in
    let at : slice_get c.args.fibers.now c.loop-i.i ≡ Some c.index-fibers-i.result = grind (arith, common_steps, gets) in
    let before = at_more fs gs c.loop-i.numbers.items (take c.loop-i.i c.args.fibers.now) told.more known.numbers in
    record {
      more = more_more c.args.pool.now.items.items fs gs known.more told.more;
      numbers = subst (λ (l : List ℕ). AreAt gs l (take (c.loop-i.i + 1) c.args.fibers.now)) (sym c.in_ok-push.ensures.items)
          (numbered_at gs c.loop-i.numbers.items c.args.fibers.now c.loop-i.i c.in_ok-number.number c.index-fibers-i.result at told.number before);
    }

pub returns-in_err-number-clause-more : goal.returns-in_err-number-clause-more
returns-in_err-number-clause-more c =
    more_more c.args.pool.now.items.items c.loop-i.pool.items.items c.number_of.new.self.items.items c.loop-i.invariant.more c.number_of.ensures.more

pub returns-clause-numbers : goal.returns-clause-numbers
returns-clause-numbers c =
    let past : length c.args.fibers.now ≤ c.loop-i.i = omega arith in
    subst (λ (l : List Fiber). AreAt c.loop-i.pool.items.items c.loop-i.numbers.items l) (take_all c.loop-i.i c.args.fibers.now past)
    c.loop-i.invariant.numbers
