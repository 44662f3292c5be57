use Rattle.std.proofs.Common.{slice_index_or, ◌≡◌, ◌≤◌, ◌+◌, ℕ, List, length, take, sym, ap, ◌∙◌, subst, arith}
use Rattle.std.specs.Prelude.{Some}
use Rattle.std.specs.List.{slice_get}
use Rattle.std.proofs.lemmas.Grind.{common_steps}
use Rattle.std.proofs.lemmas.Option.{gets, slice_get-get_or}
use Rattle.std.proofs.lemmas.List.{take_all}
use Rattle.fiber_frames.specs.Fiber.{Fiber}
use Rattle.every_schedule.specs.Private.Numbered.{AreAt}
use Rattle.every_schedule.proofs.Standing.{all_low, taken_at, taken_none}
use Rattle.every_schedule.proofs.current.fibers_of.Goals as goal

pub loop-i-init : goal.loop-i-init
loop-i-init c =
    subst (λ (l : List Fiber). AreAt c.args.pool.now.items.items (take 0 c.args.numbers.now) l) (sym c.new-fibers.ensures.items)
    (taken_none c.args.pool.now.items.items c.args.numbers.now)

pub loop-i-preserved : goal.loop-i-preserved
loop-i-preserved c =
    let fs = c.args.pool.now.items.items in
    let ns = c.args.numbers.now in
    let i = c.loop-i.i in
    let n = slice_index_or ns i 0 in
    let number : slice_get ns i ≡ Some n = slice_get-get_or ns i 0 (omega arith) in
    let low = all_low fs ns i n c.requires number in
    let item : slice_get fs n ≡ Some c.index.result.now = grind (arith, common_steps, gets) in
    let state : slice_get fs n ≡ Some c.in_ok-fiber.fiber = item ∙ ap Some (sym c.in_ok-fiber.ensures) in
    subst (λ (l : List Fiber). AreAt fs (take (i + 1) ns) l) (sym c.in_ok-push.ensures.items)
    (taken_at fs ns i c.loop-i.fibers.items n c.in_ok-fiber.fiber number state c.loop-i.invariant)

pub returns : goal.returns
returns c =
    let past : length c.args.numbers.now ≤ c.loop-i.i = omega arith in
    subst (λ (l : List ℕ). AreAt c.args.pool.now.items.items l c.loop-i.fibers.items) (take_all c.loop-i.i c.args.numbers.now past) c.loop-i.invariant
