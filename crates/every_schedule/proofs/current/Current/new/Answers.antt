use Rattle.std.proofs.Common.{◌≡◌, [], sym, ap₂, ◌∙◌, subst, arith}
use Rattle.std.specs.Prelude.{List}
use Rattle.std.proofs.lemmas.Grind.{common_steps}
use Rattle.fiber_frames.specs.Fiber.{Fiber}
use Rattle.cell_registry.specs.Plain.{PlainView}
use Rattle.every_schedule.specs.Private.Turning.{AreTurned}
use Rattle.every_schedule.proofs.Numbered.{picked_is}
use Rattle.every_schedule.proofs.Standing.{at_place, low_at}
use Rattle.every_schedule.proofs.Turning.{turned_none}
use Rattle.every_schedule.proofs.current.Current.new.Goals as goal

pub invariant_of-result : goal.invariant_of-result
invariant_of-result c =
    let fs = c.number_all.new.pool.items.items in
    let none : c.new-3.result.kept.items ≡ [] = c.new-3.ensures in (
      low_at fs c.in_ok-numbers.numbers.items c.as_slice.result.now c.in_ok-numbers.ensures.numbers,
      subst (AreTurned fs) (sym none) (turned_none fs),
      c.know_all.ensures,
      tt,
    )

pub returns-clause-here : goal.returns-clause-here
returns-clause-here c =
    let fs = c.number_all.new.pool.items.items in
    let same : c.as_slice.result.now ≡ c.into_parts-fibers.result.0.items = grind (arith, common_steps) in
    let are = picked_is fs c.in_ok-numbers.numbers.items c.as_slice.result.now c.in_ok-numbers.ensures.numbers in
    ap₂ (λ (l : List Fiber) (r : PlainView). at_place r l) (are ∙ same ∙ c.into_parts-fibers.ensures.fibers) c.into_parts-fibers.ensures.registry
